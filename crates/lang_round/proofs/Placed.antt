-- The names that numbers stand for, and what a right tree says of its numbers.
use Rattle.std.proofs.Common.{◌≡◌, ℕ, false, List, ap, ◌∙◌}
use Rattle.std.specs.Prelude.{◌==◌, Option, Some, None, slice_get}
use Rattle.item_types.specs.Named.{bean_name}
use Rattle.item_types.specs.declared.decl.ItemDecl.{ItemDecl}
use Rattle.item_types.specs.declared.decl.BeanDecl.{BeanDecl}
use Rattle.item_types.specs.declared.decl.MethodSig.{MethodSig}
use Rattle.item_types.specs.declared.decl.RecorderDecl.{RecorderDecl}
use Rattle.item_types.specs.declared.decl.Names.{Names}
use Rattle.syntax_tree.specs.Undeclared.{no_number}
use Rattle.syntax_tree.specs.Naming.{place_of, item_number, bean_number, recorder_number, methods_by, method_number}
use Rattle.lang_print.specs.Naming.{item_by, recorder_by, method_by, method_in, item_name, recorder_name, method_name}
use Rattle.syntax_tree.proofs.CallerLemmas.{At, at_place}

-- ---- the names of numbers

pub item_named : (names : Names) (w : List ℕ) → (item_number names w == no_number) ≡ false → item_name names (item_number names w) ≡ w
item_named names w some = let h : At (λ (x : ItemDecl). x.name) names.items w (item_number names w) = at_place (λ (x : ItemDecl). x.name) names.items w some in ap item_by h.gets ∙ h.named

pub bean_named : (names : Names) (w : List ℕ) → (bean_number names w == no_number) ≡ false → bean_name (slice_get names.beans (bean_number names w)) ≡ w
bean_named names w some = let h : At (λ (x : BeanDecl). x.name) names.beans w (bean_number names w) = at_place (λ (x : BeanDecl). x.name) names.beans w some in ap bean_name h.gets ∙ h.named

pub recorder_named : (names : Names) (w : List ℕ) → (recorder_number names w == no_number) ≡ false → recorder_name names (recorder_number names w) ≡ w
recorder_named names w some = let h : At (λ (x : RecorderDecl). x.name) names.recorders w (recorder_number names w) = at_place (λ (x : RecorderDecl). x.name) names.recorders w some in ap recorder_by h.gets ∙ h.named

method_by_named : (o : Option RecorderDecl) (m : List ℕ) → (place_of (λ (x : MethodSig). x.name) 0 (methods_by o) m == no_number) ≡ false → method_in o (place_of (λ (x : MethodSig). x.name) 0 (methods_by o) m) ≡ m
method_by_named None m some = absurd cc
method_by_named (Some d) m some = let h : At (λ (x : MethodSig). x.name) d.methods m (place_of (λ (x : MethodSig). x.name) 0 d.methods m) = at_place (λ (x : MethodSig). x.name) d.methods m some in ap method_by h.gets ∙ h.named

pub method_named : (names : Names) (r m : List ℕ) → (method_number names r m == no_number) ≡ false → method_name names (recorder_number names r) (method_number names r m) ≡ m
method_named names r m some = method_by_named (slice_get names.recorders (recorder_number names r)) m some
