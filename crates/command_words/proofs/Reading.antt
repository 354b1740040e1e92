-- How the words after the command are read, one after another.
use Rattle.std.proofs.Common.{suc, ◌≡◌, ◌∙◌, ap, refl, sym, ℕ, get_or, drop-cons, add-one, ◌+◌, ◌<◌, ◌⊎◌, inl, inr, Bool, true, false, List, [], ◌∷◌, append_assoc, length, map, drop, Option, Some, None, option_map, Result, Ok, Err}
use Rattle.std.specs.Option.{ok_or}
use Rattle.command_words.specs.declared.arguments.Arguments.{Arguments}
use Rattle.command_words.specs.declared.command.WordsErr.{WordsErr}
use Rattle.command_words.specs.declared.command.WordsErr.TheVariants.{Refused, Memory}
use Rattle.command_words.specs.Arguments.{and_rest, and_then, arguments, as_value, is_end, is_workers, joined_value, operands, single}

pub nothing_read : (o : Option Arguments) (read : Arguments) → read ≡ operands [] → o ≡ option_map (and_then read) o
nothing_read None read is = refl
nothing_read (Some a) read is = rw is refl

joined : (a b c : Arguments) → and_then a (and_then b c) ≡ and_then (and_then a b) c
joined a b c = λ i. record {
  operands = sym (append_assoc a.operands b.operands c.operands) i;
  workers = sym (append_assoc a.workers b.workers c.workers) i;
}

-- one more word's arguments are read
pub went : (read now : Arguments) (first rest : Option Arguments) → ◌≡◌ {A = Result Arguments WordsErr} (Ok now) (ok_or (option_map (and_then read) first) Refused)
    → option_map (and_then read) (and_rest first rest) ≡ option_map (and_then now) rest
went read now None rest is = absurd (cc)
went read now (Some a) None is = refl
went read now (Some a) (Some b) is = let e : now ≡ and_then read a = cc in ap Some (joined read a b) ∙ ap (λ x. Some (and_then x b)) (sym e)

-- a word that was read with no want of memory
read_well : (now : Arguments) (r : Result Arguments WordsErr) → (◌≡◌ {A = Result Arguments WordsErr} (Ok now) (Err Memory)) ⊎ (◌≡◌ {A = Result Arguments WordsErr} (Ok now) r)
    → ◌≡◌ {A = Result Arguments WordsErr} (Ok now) r
read_well now r cause = elim cause [ inl want ↦ absurd (cc) | inr well ↦ well ]

pub next_word : {A : Type 0} (f : A → List ℕ) (words : List A) (at : ℕ) (w : A) (text : List ℕ) → at < length words → w ≡ get_or words at w → text ≡ f w
    → map f (drop at words) ≡ text ∷ map f (drop (at + 1) words)
next_word f words at w text within is shown =
    rw add-one (ap (map f) (drop-cons words at w within) ∙ ap (λ x. f x ∷ map f (drop (suc at) words)) (sym is) ∙ ap (λ t. t ∷ map f (drop (suc at) words)) (sym shown))

module _ (start : Option Arguments) (read kept now : Arguments) (was is : Bool) (rest more : List (List ℕ)) (word : List ℕ) (next : rest ≡ word ∷ more)
    (so_far : start ≡ option_map (and_then read) (arguments was rest)) (same : now ≡ kept) where
  ends : (first : Option Arguments) → arguments was rest ≡ and_rest first (arguments false more)
      → (◌≡◌ {A = Result Arguments WordsErr} (Ok kept) (Err Memory)) ⊎ (◌≡◌ {A = Result Arguments WordsErr} (Ok kept) (ok_or (option_map (and_then read) first) Refused))
      → is ≡ false → start ≡ option_map (and_then now) (arguments is more)
  ends first e cause then =
      so_far ∙ ap (option_map (and_then read)) e ∙ went read kept first (arguments false more) (read_well kept _ cause)
      ∙ ap (λ (a : Arguments). option_map (and_then a) (arguments false more)) (sym same) ∙ ap (λ flag. option_map (and_then now) (arguments flag more)) (sym then)

  pub value_read : was ≡ true
      → (◌≡◌ {A = Result Arguments WordsErr} (Ok kept) (Err Memory)) ⊎ (◌≡◌ {A = Result Arguments WordsErr} (Ok kept) (ok_or (option_map (and_then read) (as_value word)) Refused))
      → is ≡ false → start ≡ option_map (and_then now) (arguments is more)
  value_read flag = ends (as_value word) (rw (flag, next) refl)

  pub word_read : was ≡ false → is_end word ≡ false → is_workers word ≡ false
      → (◌≡◌ {A = Result Arguments WordsErr} (Ok kept) (Err Memory)) ⊎ (◌≡◌ {A = Result Arguments WordsErr} (Ok kept) (ok_or (option_map (and_then read) (single word (joined_value word))) Refused))
      → is ≡ false → start ≡ option_map (and_then now) (arguments is more)
  word_read flag no_end no_option = ends (single word (joined_value word)) (rw (flag, next, no_end, no_option) refl)

  pub option_read : was ≡ false → is_end word ≡ false → is_workers word ≡ true → kept ≡ read → is ≡ true
      → start ≡ option_map (and_then now) (arguments is more)
  option_read flag no_end option unread then =
      let e : arguments was rest ≡ arguments true more = rw (flag, next, no_end, option) refl in
      so_far ∙ ap (option_map (and_then read)) e ∙ ap (λ (a : Arguments). option_map (and_then a) (arguments true more)) (sym (same ∙ unread))
      ∙ ap (λ flag. option_map (and_then now) (arguments flag more)) (sym then)
