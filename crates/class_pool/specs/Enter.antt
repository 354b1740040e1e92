-- Entering into a pool: where entries show the same, the least of their indices is used; else the parts are entered first,
-- in order, and then the entry takes the next index. This project's own rule.
use Rattle.std.specs.Prelude.{◌≡◌, ℕ, ℤ, ◌+◌, cond, nat_lt, List, [], ◌∷◌, ◌++◌, length, Option, Some, None, Result, Ok, Err}
use Rattle.class_pool.specs.Showing.{least}
use Rattle.class_pool.specs.declared.entry.Entry.{Entry}
use Rattle.class_pool.specs.declared.entry.Entry.TheVariants as entry
use Rattle.class_pool.specs.declared.shown.Shown.{Shown}
use Rattle.class_pool.specs.declared.shown.Shown.TheVariants as shown
use Rattle.class_pool.specs.declared.pool_err.PoolErr.{PoolErr}
use Rattle.class_pool.specs.declared.pool_err.PoolErr.TheVariants as err

-- the index of an entry, and the pool with it; None where an index would pass 65,534
abbrev pub Entered : Type 0
Entered = Option (ℕ × List Entry)

-- the next index
abbrev pub put : Entry → List Entry → Entered
put e es = cond (nat_lt 65533 (length es)) None (Some (length es + 1, es ++ e ∷ []))

-- the next two
abbrev pub put_two : Entry → List Entry → Entered
put_two e es = cond (nat_lt 65532 (length es)) None (Some (length es + 1, es ++ e ∷ entry.Gap ∷ []))

-- the index that was found, else a new one
abbrev pub found_or : Option ℕ → Entered → List Entry → Entered
found_or (Some i) new es = Some (i, es)
found_or None new es = new

-- what is entered next, once a part is there
abbrev pub after : Entered → (ℕ → List Entry → Entered) → Entered
after None next = None
after (Some r) next = next r.0 r.1

unfoldable pub utf8 : List ℕ → List Entry → Entered
utf8 text es = found_or (least (shown.Text text) es) (put (entry.Utf8 text) es) es

unfoldable pub integer : ℕ → List Entry → Entered
integer n es = found_or (least (shown.Integer n) es) (put (entry.Integer n) es) es

unfoldable pub long : ℤ → List Entry → Entered
long n es = found_or (least (shown.Long n) es) (put_two (entry.Long n) es) es

unfoldable pub class : List ℕ → List Entry → Entered
class name es = found_or (least (shown.Class name) es) (after (utf8 name es) (λ n fs. put (entry.Class n) fs)) es

unfoldable pub string : List ℕ → List Entry → Entered
string text es = found_or (least (shown.Str text) es) (after (utf8 text es) (λ n fs. put (entry.Str n) fs)) es

unfoldable pub name_type : List ℕ → List ℕ → List Entry → Entered
name_type name descriptor es = found_or (least (shown.NameType name descriptor) es) (after (utf8 name es) (λ n fs. after (utf8 descriptor fs) (λ d gs. put (entry.NameType n d) gs))) es

unfoldable pub field : List ℕ → List ℕ → List ℕ → List Entry → Entered
field owner name descriptor es = found_or (least (shown.Field owner name descriptor) es) (after (class owner es) (λ c fs. after (name_type name descriptor fs) (λ n gs. put (entry.Field c n) gs))) es

unfoldable pub method : List ℕ → List ℕ → List ℕ → List Entry → Entered
method owner name descriptor es = found_or (least (shown.Method owner name descriptor) es) (after (class owner es) (λ c fs. after (name_type name descriptor fs) (λ n gs. put (entry.Method c n) gs))) es

-- what a call did: it entered; or the pool is full and as before; or memory is wanting and the pool is as before
abbrev pub Enters : Entered → Result ℕ PoolErr → List Entry → List Entry → Type 0
Enters outcome (Ok i) old new = outcome ≡ Some (i, new)
Enters outcome (Err err.Full) old new = (outcome ≡ None) × (new ≡ old)
Enters outcome (Err err.Memory) old new = new ≡ old

-- the same of a step of a longer call, which is taken back as a whole
abbrev pub Steps : Entered → Result ℕ PoolErr → List Entry → Type 0
Steps outcome (Ok i) new = outcome ≡ Some (i, new)
Steps outcome (Err err.Full) new = outcome ≡ None
Steps outcome (Err err.Memory) new = Unit {0}

-- entering whatever an entry shows
abbrev pub enter : Shown → List Entry → Entered
enter (shown.Text t) es = utf8 t es
enter (shown.Integer n) es = integer n es
enter (shown.Long n) es = long n es
enter (shown.Class name) es = class name es
enter (shown.Str t) es = string t es
enter (shown.NameType name descriptor) es = name_type name descriptor es
enter (shown.Field owner name descriptor) es = field owner name descriptor es
enter (shown.Method owner name descriptor) es = method owner name descriptor es
