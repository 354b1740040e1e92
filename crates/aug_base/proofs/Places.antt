-- The map of a list of files over another: where a name is found in it, and what a file at its end does.
use Rattle.std.proofs.Common.{suc, ◌≤◌, ◌≡◌, ◌∙◌, ap, refl, sym, subst, cond, Bool, true, false, ℕ, ◌<◌, List, [], ◌∷◌, ◌++◌, length, get_or, drop, drop-cons, Some, arith}
use Rattle.std.specs.Prelude.{bytes_eq, String}
use Rattle.std.specs.BTreeMap.{BTreeMap, UpdatesBy, get_by_text}
use Rattle.std.specs.Cmp.Lexicographic.{slice_cmp}
use Rattle.std.specs.Ordering.{nat_cmp}
use Rattle.std.specs.String.{string_bytes, string_cmp}
use Rattle.std.specs.declared.alloc.Global.{Global}
use Rattle.std.proofs.lemmas.Map.Text.{btree_map_updates_text}
use Rattle.std.proofs.lemmas.Slice.Eq.{bytes_eq-Decides}
use mathlib.Core.Path.{fun_ext}
use Rattle.aug_base.specs.Files.{Files, File, no_files, with_file, files_of, place}
use Rattle.aug_base.specs.MapOfFiles.{files_over, map_files}

pub eq_name : (a : List ℕ) → bytes_eq a a ≡ true
eq_name a = (bytes_eq-Decides a a).1 refl

-- the order of two names doesn't matter to whether they are one
swap-by : (a b : List ℕ) (x y : Bool) → bytes_eq a b ≡ x → bytes_eq b a ≡ y → x ≡ y
swap-by a b true true p q = refl
swap-by a b false false p q = refl
swap-by a b true false p q = let e : a ≡ b = (bytes_eq-Decides a b).0 p in let t : bytes_eq b a ≡ true = (bytes_eq-Decides b a).1 (sym e) in cc
swap-by a b false true p q = let e : b ≡ a = (bytes_eq-Decides b a).0 q in let t : bytes_eq a b ≡ true = (bytes_eq-Decides a b).1 (sym e) in cc

swap : (a b : List ℕ) → bytes_eq a b ≡ bytes_eq b a
swap a b = swap-by a b (bytes_eq a b) (bytes_eq b a) refl refl

-- a map by name with one more file, in place of what it had under the name
put-by : (name bytes : List ℕ) (before now : BTreeMap (String Global) (List ℕ))
    → UpdatesBy string_cmp (λ k. slice_cmp nat_cmp name (string_bytes k)) before now (Some bytes)
    → map_files now ≡ with_file (name, bytes) (map_files before)
put-by name bytes before now puts =
    fun_ext (λ q. btree_map_updates_text name before now (Some bytes) puts q ∙ ap (λ b. cond b (Some bytes) (get_by_text before q)) (swap name q))

pub map_files-put : (name bytes shown : List ℕ) (before now : BTreeMap (String Global) (List ℕ)) → shown ≡ name
    → UpdatesBy string_cmp (λ k. slice_cmp nat_cmp shown (string_bytes k)) before now (Some bytes)
    → map_files now ≡ with_file (name, bytes) (map_files before)
map_files-put name bytes shown before now e puts =
    let P : List ℕ → Type 0 = λ n. map_files now ≡ with_file (n, bytes) (map_files before) in
    subst P e (put-by shown bytes before now puts)

map_files-none : (m : BTreeMap (String Global) (List ℕ)) → m.entries ≡ [] → map_files m ≡ no_files
map_files-none m e = fun_ext (λ q. rw e refl)

-- no list of files over a map is the map
pub files_over-none : (files : List File) → files_over files no_files ≡ files_of files
files_over-none [] = refl
files_over-none (file ∷ files) = ap (with_file file) (files_over-none files)

-- what a shelf is made of
pub made_of : (given files : List File) (m : BTreeMap (String Global) (List ℕ)) → given ≡ files → m.entries ≡ []
    → files_over given (map_files m) ≡ files_of files
made_of given files m e none = ap (λ (x : Files). files_over given x) (map_files-none m none) ∙ files_over-none given ∙ ap files_of e

-- a file at the end of the list is the first of the map below it
pub files_over-last : (files : List File) (file : File) (m : Files) → files_over (files ++ file ∷ []) m ≡ files_over files (with_file file m)
files_over-last [] file m = refl
files_over-last (f ∷ files) file m = ap (with_file f) (files_over-last files file m)

-- the last of a list was put into the map below it
pub settled_last : (files rest : List File) (file : File) (m now : Files) → files ≡ rest ++ file ∷ [] → now ≡ with_file file m
    → files_over rest now ≡ files_over files m
settled_last files rest file m now e p =
    ap (files_over rest) p ∙ sym (files_over-last rest file m) ∙ ap (λ (x : List File). files_over x m) (sym e)

-- the last of a list was put back
pub settled_back : (files rest now : List File) (file back : File) (m last : Files) → files ≡ rest ++ file ∷ [] → back ≡ file
    → now ≡ rest ++ back ∷ [] → last ≡ m → files_over now last ≡ files_over files m
settled_back files rest now file back m last e b n p =
    let same : now ≡ files = n ∙ ap (λ (x : File). rest ++ x ∷ []) b ∙ sym e in
    ap (λ (x : List File). files_over x last) same ∙ ap (files_over files) p

-- a file goes into the map below nothing
written_over : (given first : List File) (m now below : Files) (file : File) → given ≡ [] → files_over given m ≡ files_over first below
    → now ≡ with_file file m → files_over given now ≡ with_file file (files_over first below)
written_over given first m now below file none same p =
    let a : files_over given now ≡ now = ap (λ (x : List File). files_over x now) none in
    let b : files_over given m ≡ m = ap (λ (x : List File). files_over x m) none in
    a ∙ p ∙ ap (with_file file) (sym b ∙ same)

pub written_as : (given first : List File) (m now below : Files) (n b name bytes : List ℕ) → n ≡ name → b ≡ bytes
    → given ≡ [] → files_over given m ≡ files_over first below → now ≡ with_file (n, b) m
    → files_over given now ≡ with_file (name, bytes) (files_over first below)
written_as given first m now below n b name bytes e f none same p =
    written_over given first m now below (name, bytes) none same
    (p ∙ ap (λ (x : List ℕ). with_file (x, b) m) e ∙ ap (λ (y : List ℕ). with_file (name, y) m) f)

-- what a place in a list tells of the list's map: each by the head's name, which is that name or isn't
found-by : (name : List ℕ) (file : File) (files : List File) (m : Files) (d : File) (b : Bool)
    → (place name files < length files → files_over files m name ≡ Some (get_or files (place name files) d).1)
    → cond b 0 (suc (place name files)) < suc (length files)
    → cond b (Some file.1) (files_over files m name) ≡ Some (get_or (file ∷ files) (cond b 0 (suc (place name files))) d).1
found-by name file files m d true rest within = refl
found-by name file files m d false rest within = rest (omega arith)

found : (name : List ℕ) (files : List File) (m : Files) (d : File) → place name files < length files
    → files_over files m name ≡ Some (get_or files (place name files) d).1
found name [] m d within = absurd (omega arith)
found name (file ∷ files) m d within = found-by name file files m d (bytes_eq name file.0) (found name files m d) within

missing-by : (name : List ℕ) (file : File) (files : List File) (m : Files) (b : Bool)
    → (length files ≤ place name files → files_over files m name ≡ m name)
    → suc (length files) ≤ cond b 0 (suc (place name files)) → cond b (Some file.1) (files_over files m name) ≡ m name
missing-by name file files m true rest past = absurd (omega arith)
missing-by name file files m false rest past = rest (omega arith)

missing : (name : List ℕ) (files : List File) (m : Files) → length files ≤ place name files → files_over files m name ≡ m name
missing name [] m past = refl
missing name (file ∷ files) m past = missing-by name file files m (bytes_eq name file.0) (missing name files m) past

-- a loop that looks for the place: one further, or here
pub place_on : (name : List ℕ) (files : List File) (at : ℕ) (d : File) → at < length files
    → bytes_eq name (get_or files at d).0 ≡ false → place name (drop at files) ≡ suc (place name (drop (suc at) files))
place_on name files at d within differ = rw (drop-cons files at d, differ) refl

pub place_here : (name : List ℕ) (files : List File) (at : ℕ) (d : File) → at < length files
    → bytes_eq name (get_or files at d).0 ≡ true → place name (drop at files) ≡ 0
place_here name files at d within same = rw (drop-cons files at d, same) refl

-- the same, as code comes to them: the list is looked at through a slice, and the place is a number
pub found_at : (name bytes : List ℕ) (files shown : List File) (m : Files) (at : ℕ) (d : File)
    → shown ≡ files → at ≡ place name shown → at < length shown → bytes ≡ (get_or shown at d).1 → Some bytes ≡ files_over files m name
found_at name bytes files shown m at d e p within b =
    let f : files_over shown m name ≡ Some (get_or shown (place name shown) d).1 = found name shown m d (omega (arith, p, within)) in
    cc (f, e, p, b)

pub missing_at : (name : List ℕ) (files shown : List File) (m : Files) (at : ℕ)
    → shown ≡ files → at ≡ place name shown → length shown ≤ at → m name ≡ files_over files m name
missing_at name files shown m at e p past =
    let f : files_over shown m name ≡ m name = missing name shown m (omega (arith, p, past)) in
    cc (f, e)
