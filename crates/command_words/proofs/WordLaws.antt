-- What the words after the command are.
use Rattle.std.proofs.Common.{◌≡◌, ◌∙◌, ap, refl, subst, sym, ℕ, Bool, true, false, ◌⊎◌, inl, inr, List, [], ◌∷◌, ◌++◌, append-nil, take, codes, bytes_eq, All, Option, Some, None, option_map}
use Rattle.std.proofs.lemmas.Slice.Eq.{bytes_eq-Decides}
use Rattle.std.proofs.lemmas.List.Elements.{All-head, All-tail}
use Rattle.std.specs.Option.{option_and_then}
use Rattle.command_words.specs.declared.arguments.Arguments.{Arguments}
use Rattle.command_words.specs.Arguments.{IsPlainWord, and_rest, and_then, arguments, as_value, is_option, joined_value, operands, single, values}
use Rattle.command_words.specs.Words.{command_named, command_of}

truth : (b : Bool) → (b ≡ true) ⊎ (b ≡ false)
truth true = inl refl
truth false = inr refl

-- a text of which another is no spelling
differs : (word text : List ℕ) → (word ≡ text → ⊥) → bytes_eq word text ≡ false
differs word text other = elim (truth (bytes_eq word text)) [ inl t ↦ absurd (other ((bytes_eq-Decides word text).0 t)) | inr f ↦ f ]

same : (word text : List ℕ) → word ≡ text → bytes_eq word text ≡ true
same word text is = (bytes_eq-Decides word text).1 is

plain_is_no_end : (word : List ℕ) → IsPlainWord word → word ≡ codes "--" → ⊥
plain_is_no_end word plain is = let e : is_option (codes "--") ≡ false = subst IsPlainWord is plain in cc

plain_is_no_option : (word : List ℕ) → IsPlainWord word → word ≡ codes "--workers" → ⊥
plain_is_no_option word plain is = let e : is_option (codes "--workers") ≡ false = subst IsPlainWord is plain in cc

begins : (word : List ℕ) → take 10 word ≡ codes "--workers=" → is_option word ≡ true
begins [] is = absurd (cc)
begins (c ∷ []) is = absurd (cc)
begins (c ∷ d ∷ more) is = let e : c ≡ 45 = cc in rw e refl

plain_has_no_value : (word : List ℕ) → IsPlainWord word → joined_value word ≡ None
plain_has_no_value word plain = rw (differs (take 10 word) (codes "--workers=") (λ is. let e = begins word is in cc)) refl

-- a word that is neither `--` nor `--workers`
alone : (word : List ℕ) (words : List (List ℕ)) → (word ≡ codes "--" → ⊥) → (word ≡ codes "--workers" → ⊥)
    → arguments false (word ∷ words) ≡ and_rest (single word (joined_value word)) (arguments false words)
alone word words no_end no_option = rw (differs word (codes "--") no_end, differs word (codes "--workers") no_option) refl

plain_single : (word : List ℕ) → IsPlainWord word → single word (joined_value word) ≡ Some (operands (word ∷ []))
plain_single word plain = rw (plain_has_no_value word plain, plain) refl

first_plain : (word : List ℕ) (words : List (List ℕ)) → IsPlainWord word
    → arguments false (word ∷ words) ≡ option_map (and_then (operands (word ∷ []))) (arguments false words)
first_plain word words plain =
    alone word words (plain_is_no_end word plain) (plain_is_no_option word plain)
    ∙ ap (λ first. and_rest first (arguments false words)) (plain_single word plain)

none_first : (o : Option Arguments) → o ≡ option_map (and_then (operands [])) o
none_first None = refl
none_first (Some a) = refl

one_more : (word : List ℕ) (words : List (List ℕ)) (o : Option Arguments)
    → option_map (and_then (operands (word ∷ []))) (option_map (and_then (operands words)) o) ≡ option_map (and_then (operands (word ∷ words))) o
one_more word words None = refl
one_more word words (Some a) = refl

-- plain words and what comes after them
over : (words after : List (List ℕ)) → All IsPlainWord words → arguments false (words ++ after) ≡ option_map (and_then (operands words)) (arguments false after)
over [] after all = none_first (arguments false after)
over (word ∷ words) after all =
    first_plain word (words ++ after) (All-head IsPlainWord word words all)
    ∙ ap (option_map (and_then (operands (word ∷ [])))) (over words after (All-tail IsPlainWord word words all))
    ∙ one_more word words (arguments false after)

pub plain_words : (words : List (List ℕ)) → All IsPlainWord words → arguments false words ≡ Some (operands words)
plain_words words all =
    ap (arguments false) (sym (append-nil words)) ∙ over words [] all ∙ ap (λ ws. Some (operands ws)) (append-nil words)

pub ended_words : (words after : List (List ℕ)) → All IsPlainWord words → arguments false (words ++ codes "--" ∷ after) ≡ Some (operands (words ++ after))
ended_words words after all = over words (codes "--" ∷ after) all

pub refused_words : (words after : List (List ℕ)) (word : List ℕ) → All IsPlainWord words → is_option word ≡ true → (word ≡ codes "--" → ⊥)
    → (word ≡ codes "--workers" → ⊥) → joined_value word ≡ None → arguments false (words ++ word ∷ after) ≡ None
refused_words words after word all option no_end no_option no_value =
    let e : single word (joined_value word) ≡ None = rw (no_value, option) refl in
    let f : arguments false (word ∷ after) ≡ None = alone word after no_end no_option ∙ ap (λ first. and_rest first (arguments false after)) e in
    over words (word ∷ after) all ∙ ap (option_map (and_then (operands words))) f

next_value : (value : List ℕ) (words : List (List ℕ)) → (value ≡ codes "--" → ⊥)
    → arguments false (codes "--workers" ∷ value ∷ words) ≡ option_map (and_then (values (value ∷ []))) (arguments false words)
next_value value words no_end =
    let e : as_value value ≡ Some (values (value ∷ [])) = rw (differs value (codes "--") no_end) refl in
    ap (λ first. and_rest first (arguments false words)) e

joined_word : (value : List ℕ) (words : List (List ℕ))
    → arguments false ((codes "--workers=" ++ value) ∷ words) ≡ option_map (and_then (values (value ∷ []))) (arguments false words)
joined_word value words = refl

with_option : (value : List ℕ) (before after : List (List ℕ)) (o : Option Arguments) → All IsPlainWord after
    → o ≡ option_map (and_then (values (value ∷ []))) (arguments false after)
    → option_map (and_then (operands before)) o ≡ Some (record { operands = before ++ after; workers = value ∷ [] })
with_option value before after o all is =
    ap (option_map (and_then (operands before))) (is ∙ ap (option_map (and_then (values (value ∷ [])))) (plain_words after all))

pub next : (command value : List ℕ) (before after : List (List ℕ)) → All IsPlainWord before → All IsPlainWord after → (value ≡ codes "--" → ⊥)
    → command_of (command ∷ before ++ codes "--workers" ∷ value ∷ after) ≡ command_named command (before ++ after) (value ∷ [])
next command value before after first last no_end =
    ap (option_and_then (λ (a : Arguments). command_named command a.operands a.workers))
    (over before (codes "--workers" ∷ value ∷ after) first ∙ with_option value before after _ last (next_value value after no_end))

pub joined : (command value : List ℕ) (before after : List (List ℕ)) → All IsPlainWord before → All IsPlainWord after
    → command_of (command ∷ before ++ (codes "--workers=" ++ value) ∷ after) ≡ command_named command (before ++ after) (value ∷ [])
joined command value before after first last =
    ap (option_and_then (λ (a : Arguments). command_named command a.operands a.workers))
    (over before ((codes "--workers=" ++ value) ∷ after) first ∙ with_option value before after _ last (joined_word value after))

pub left_out : (command : List ℕ) (words : List (List ℕ)) → All IsPlainWord words → command_of (command ∷ words) ≡ command_named command words []
left_out command words all = ap (option_and_then (λ (a : Arguments). command_named command a.operands a.workers)) (plain_words words all)

pub no_value : (command : List ℕ) (before : List (List ℕ)) → All IsPlainWord before → command_of (command ∷ before ++ codes "--workers" ∷ []) ≡ None
no_value command before all = ap (option_and_then (λ (a : Arguments). command_named command a.operands a.workers)) (over before (codes "--workers" ∷ []) all)
