-- Texts that are lent, and what they say.
use denote.Ref.{Bor}
use Rattle.std.proofs.Common.{◌≡◌, ap, refl, ◌||◌, ℕ, List, [], ◌∷◌}
use Rattle.std.specs.List.{list_any}
use Rattle.std.specs.Str.{bytes_eq}
use Rattle.toml_keys.specs.Documents.{texts_of, is_among}

pub is_among-texts_of : (text : List ℕ) (words : List (Bor (List ℕ))) → list_any (λ word. bytes_eq text word.now) words ≡ is_among (texts_of words) text
unfolding texts_of
is_among-texts_of text [] = refl
is_among-texts_of text (w ∷ ws) = ap (λ b. bytes_eq text w.now || b) (is_among-texts_of text ws)
