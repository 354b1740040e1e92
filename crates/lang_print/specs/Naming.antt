-- The names that the numbers in a tree stand for. This project's own.
use Rattle.std.specs.Prelude.{ℕ, List, [], Option, Some, None, slice_get}
use Rattle.item_types.specs.declared.decl.Names.{Names}
use Rattle.item_types.specs.declared.decl.ItemDecl.{ItemDecl}
use Rattle.item_types.specs.declared.decl.MethodSig.{MethodSig}
use Rattle.item_types.specs.declared.decl.RecorderDecl.{RecorderDecl}

abbrev pub item_by : Option ItemDecl → List ℕ
item_by None = []
item_by (Some d) = d.name

abbrev pub recorder_by : Option RecorderDecl → List ℕ
recorder_by None = []
recorder_by (Some d) = d.name

abbrev pub method_by : Option MethodSig → List ℕ
method_by None = []
method_by (Some m) = m.name

abbrev pub method_in : Option RecorderDecl → ℕ → List ℕ
method_in None m = []
method_in (Some d) m = method_by (slice_get d.methods m)

abbrev pub item_name : Names → ℕ → List ℕ
item_name names item = item_by (slice_get names.items item)

abbrev pub recorder_name : Names → ℕ → List ℕ
recorder_name names recorder = recorder_by (slice_get names.recorders recorder)

abbrev pub method_name : Names → ℕ → ℕ → List ℕ
method_name names recorder m = method_in (slice_get names.recorders recorder) m
