-- What an entry of a pool shows: its kind, and its texts or its number (JVMS 4.4).
use Rattle.std.specs.Prelude.{◌≡◌, ℕ, ◌+◌, Bool, true, false, ◌&&◌, cond, ◌==◌, List, [], ◌∷◌, Option, Some, None}
use Rattle.std.specs.Ordering.{int_eq}
use Rattle.std.specs.Str.{bytes_eq}
use Rattle.class_pool.specs.Entries.{entry_at}
use Rattle.class_pool.specs.declared.entry.Entry.{Entry}
use Rattle.class_pool.specs.declared.entry.Entry.TheVariants as entry
use Rattle.class_pool.specs.declared.shown.Shown.{Shown}
use Rattle.class_pool.specs.declared.shown.Shown.TheVariants as shown

-- whether the entry is this text
abbrev pub is_text : List ℕ → Option Entry → Bool
is_text t (Some (entry.Utf8 u)) = bytes_eq t u
is_text t _ = false

-- whether the entry is the class of this name
abbrev pub is_class_of : List Entry → List ℕ → Option Entry → Bool
is_class_of pool name (Some (entry.Class n)) = is_text name (entry_at pool n)
is_class_of pool name _ = false

-- whether the entry is this name with this descriptor
abbrev pub is_pair_of : List Entry → List ℕ → List ℕ → Option Entry → Bool
is_pair_of pool name descriptor (Some (entry.NameType n d)) = is_text name (entry_at pool n) && is_text descriptor (entry_at pool d)
is_pair_of pool name descriptor _ = false

-- whether the entry shows this
abbrev pub shows : List Entry → Shown → Entry → Bool
shows pool (shown.Text t) (entry.Utf8 u) = bytes_eq t u
shows pool (shown.Integer n) (entry.Integer m) = n == m
shows pool (shown.Long n) (entry.Long m) = int_eq n m
shows pool (shown.Class name) (entry.Class n) = is_text name (entry_at pool n)
shows pool (shown.Str t) (entry.Str n) = is_text t (entry_at pool n)
shows pool (shown.NameType name descriptor) (entry.NameType n d) = is_text name (entry_at pool n) && is_text descriptor (entry_at pool d)
shows pool (shown.Field class name descriptor) (entry.Field c n) = is_class_of pool class (entry_at pool c) && is_pair_of pool name descriptor (entry_at pool n)
shows pool (shown.Method class name descriptor) (entry.Method c n) = is_class_of pool class (entry_at pool c) && is_pair_of pool name descriptor (entry_at pool n)
shows pool _ _ = false

-- the index holds an entry that shows this
abbrev pub passes : (Entry → Bool) → Option Entry → Bool
passes test None = false
passes test (Some e) = test e

abbrev pub Holds : List Entry → ℕ → Shown → Type 0
Holds pool i what = passes (shows pool what) (entry_at pool i) ≡ true

-- from index i on, the least index whose entry passes the test
abbrev pub first_from : (Entry → Bool) → ℕ → List Entry → Option ℕ
first_from test i [] = None
first_from test i (e ∷ es) = cond (test e) (Some i) (first_from test (i + 1) es)

-- the least index that holds an entry which shows this
abbrev pub least : Shown → List Entry → Option ℕ
least what pool = first_from (shows pool what) 1 pool

-- ---- what an entry shows

-- the text that the entry is; the name of the class; the name and the descriptor of the pair
abbrev pub text_shown : Option Entry → Option (List ℕ)
text_shown (Some (entry.Utf8 u)) = Some u
text_shown _ = None

abbrev pub class_shown : List Entry → Option Entry → Option (List ℕ)
class_shown es (Some (entry.Class n)) = text_shown (entry_at es n)
class_shown es _ = None

abbrev pub name_shown : List Entry → Option Entry → Option (List ℕ)
name_shown es (Some (entry.NameType n d)) = text_shown (entry_at es n)
name_shown es _ = None

abbrev pub descriptor_shown : List Entry → Option Entry → Option (List ℕ)
descriptor_shown es (Some (entry.NameType n d)) = text_shown (entry_at es d)
descriptor_shown es _ = None

abbrev pub with_text : Option (List ℕ) → (List ℕ → Option Shown) → Option Shown
with_text None f = None
with_text (Some t) f = f t

-- what the entry shows, its references followed to their texts; a float, a double, an interface's method and a gap show nothing here
abbrev pub resolved : List Entry → Entry → Option Shown
resolved es (entry.Utf8 t) = Some (shown.Text t)
resolved es (entry.Integer n) = Some (shown.Integer n)
resolved es (entry.Long n) = Some (shown.Long n)
resolved es (entry.Class n) = with_text (text_shown (entry_at es n)) (λ t. Some (shown.Class t))
resolved es (entry.Str n) = with_text (text_shown (entry_at es n)) (λ t. Some (shown.Str t))
resolved es (entry.NameType n d) = with_text (text_shown (entry_at es n)) (λ t. with_text (text_shown (entry_at es d)) (λ u. Some (shown.NameType t u)))
resolved es (entry.Field n d) = with_text (class_shown es (entry_at es n)) (λ c. with_text (name_shown es (entry_at es d)) (λ t. with_text (descriptor_shown es (entry_at es d)) (λ u. Some (shown.Field c t u))))
resolved es (entry.Method n d) = with_text (class_shown es (entry_at es n)) (λ c. with_text (name_shown es (entry_at es d)) (λ t. with_text (descriptor_shown es (entry_at es d)) (λ u. Some (shown.Method c t u))))
resolved es _ = None
