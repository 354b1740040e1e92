-- Names as a project file may use them. This project's own.
use Rattle.std.specs.Prelude.{ℕ, List, [], ◌∷◌, length, Bool, false, not, ◌&&◌, ◌||◌, ◌==◌, nat_le, codes}
use Rattle.std.specs.List.{list_all, list_any}
use Rattle.std.specs.Str.{bytes_eq}

-- an ASCII letter, and what may follow one in a name
abbrev pub is_letter : ℕ → Bool
is_letter c = (nat_le 0x41 c && nat_le c 0x5A) || (nat_le 0x61 c && nat_le c 0x7A)

abbrev pub is_digit : ℕ → Bool
is_digit c = nat_le 0x30 c && nat_le c 0x39

abbrev pub is_name_part : ℕ → Bool
is_name_part c = is_letter c || is_digit c || c == 0x5F

-- the words that the language of bodies keeps for itself
abbrev pub keywords : List (List ℕ)
keywords =
    codes "let" ∷ codes "produce" ∷ codes "for" ∷ codes "in" ∷ codes "if" ∷ codes "else" ∷ codes "call" ∷ codes "fail" ∷
    codes "get" ∷ codes "all" ∷ codes "new" ∷ codes "len" ∷ codes "true" ∷ codes "false" ∷ codes "null" ∷ codes "self" ∷
    codes "static" ∷ codes "add" ∷ codes "print" ∷ codes "return" ∷ []

unfoldable pub is_keyword : List ℕ → Bool
is_keyword text = list_any (bytes_eq text) keywords

abbrev pub begins_with_letter : List ℕ → Bool
begins_with_letter [] = false
begins_with_letter (c ∷ cs) = is_letter c

-- a letter followed by letters, digits or `_`, at most 64 characters, and no keyword
unfoldable pub is_name : List ℕ → Bool
is_name text = begins_with_letter text && list_all is_name_part text && nat_le (length text) 64 && not (is_keyword text)
