-- Some of the ways that the rule for a token takes by its first byte. Assumes nothing.
use Rattle.std.specs.Prelude.{ℕ, ◌+◌, ◌-◌, not, ◌&&◌, List, ltb, length, get_or}
use Rattle.rules.specs.Base.{when◌then◌else◌, is}
use Rattle.rules.specs.Tokens.{Match, match, token, mark, bad, blank, begins, space, wordy, while, directive_after, after_quote}

-- the number of a register that is one digit at a place, with no word character behind it; 8 of anything else
unfoldable pub short_register : List ℕ → ℕ → ℕ
short_register s i =
    when ltb (get_or s i 0) 48 then 8
    else when ltb 55 (get_or s i 0) then 8
    else when wordy (get_or s (i + 1) 0) then 8
    else get_or s i 0 - 48

-- a carriage return, and what follows it
unfoldable pub after_return : List ℕ → Match
after_return s = when begins (is "\n") s then match (token (mark 10)) 2 else match (bad 10) 1

-- a comment
unfoldable pub after_semicolon : List ℕ → Match
after_semicolon s = match blank (1 + length (while (λ d. not (is "\n" d)) s))

-- the rule's last tests: no letter, digit, hash or minus
unfoldable pub after_other : ℕ → List ℕ → Match
after_other c s =
    when is "." c then directive_after s
    else when is "\"" c then after_quote s
    else when is ":" c then match (token (mark c)) 1
    else when is "," c then match (token (mark c)) 1
    else when is ";" c then match blank (1 + length (while (λ d. not (is "\n" d)) s))
    else when is "\n" c then match (token (mark c)) 1
    else when is "\r" c && begins (is "\n") s then match (token (mark 10)) 2
    else when space c then match blank (1 + length (while space s))
    else match (bad 10) 1
