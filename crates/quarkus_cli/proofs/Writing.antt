-- Files written one after another.
use Rattle.std.proofs.Common.{suc, ◌≡◌, ◌∙◌, ap, refl, sym, ℕ, ◌+◌, ◌<◌, inl, inr, List, [], ◌∷◌, ◌++◌, length, take, drop, drop-cons, get_or, add-one, Option, Some, None, option_map, take-append-drop}
use Rattle.std.proofs.Math.Seq.{take-suc}
use Rattle.aug_base.specs.Files.{Files, File, with_file, with_files}
use Rattle.aug_base.specs.Shelves.{Torn}
use Rattle.quarkus_cli.specs.Answers.{WrittenInPart}

pub with_files_append : (a b : List File) (m : Files) → with_files (a ++ b) m ≡ with_files b (with_files a m)
with_files_append [] b m = refl
with_files_append (f ∷ a) b m = with_files_append a b (with_file f m)

one_more : (a : List File) (f : File) (o : Option Files) → option_map (with_file f) (option_map (with_files a) o) ≡ option_map (with_files (a ++ f ∷ [])) o
one_more a f None = refl
one_more a f (Some m) = ap Some (sym (with_files_append a (f ∷ []) m))

torn_next : (a : List File) (f : File) (o : Option Files)
    → option_map (with_file f) (option_map (with_files a) o) ≡ option_map (λ m. with_file f (with_files a m)) o
torn_next a f None = refl
torn_next a f (Some m) = refl

pub write_on : (files : List File) (at : ℕ) (d : File) (name bytes : List ℕ) (first middle last : Option Files) → at < length files
    → d ≡ get_or files at d → name ≡ d.0 → bytes ≡ d.1
    → middle ≡ option_map (with_files (take at files)) first → last ≡ option_map (with_file (name, bytes)) middle
    → last ≡ option_map (with_files (take (at + 1) files)) first
write_on files at d name bytes first middle last within is n b p q =
    let t : take (at + 1) files ≡ take at files ++ d ∷ [] =
    rw add-one (take-suc files at d within ∙ ap (λ f. take at files ++ f ∷ []) (sym is)) in
    let e : last ≡ option_map (with_file d) middle = rw (← n, ← b) q in
    e ∙ ap (option_map (with_file d)) p ∙ one_more (take at files) d first ∙ ap (λ fs. option_map (with_files fs) first) (sym t)

pub write_torn : (files : List File) (at : ℕ) (d : File) (name bytes : List ℕ) (first middle last : Option Files) → at < length files
    → d ≡ get_or files at d → name ≡ d.0 → bytes ≡ d.1
    → middle ≡ option_map (with_files (take at files)) first → Torn name bytes middle last → WrittenInPart files first last
write_torn files at d name bytes first middle last within is n b p torn = (
  take at files,
  drop at files,
  sym (take-append-drop at files),
  elim torn [
    | inl same ↦ inl (same ∙ p)
    | inr t ↦ inr (
      d,
      drop (at + 1) files,
      t.0,
      rw add-one (drop-cons files at d within ∙ ap (λ f. f ∷ drop (suc at) files) (sym is)),
      rw (← b) t.1,
      rw (← n) (t.2 ∙ ap (option_map (with_file (name, t.0))) p ∙ torn_next (take at files) (name, t.0) first),
    )
  ],
)
