-- What a project file keeps once its keys were all read: which texts are names, and the limits. This project's own.
use Rattle.std.specs.Prelude.{ℕ, ◌≤◌, List, length, map, IsTrue, All}
use Rattle.std.specs.List.{flat_map}
use Rattle.item_types.specs.declared.decl.BeanDecl.{BeanDecl}
use Rattle.item_types.specs.declared.decl.ItemDecl.{ItemDecl}
use Rattle.item_types.specs.declared.decl.ItemKind.{ItemKind}
use Rattle.item_types.specs.declared.decl.ItemKind.TheVariants.{Simple, Multi, Ordered, Empty}
use Rattle.ext_draft.specs.Declarations.{method_count}
use Rattle.ext_draft.specs.Names.{is_name}
use Rattle.ext_draft.specs.declared.draft.Draft.{Draft}
use Rattle.ext_draft.specs.declared.draft.DraftExtension.{DraftExtension}
use Rattle.ext_draft.specs.declared.draft.DraftMethod.{DraftMethod}
use Rattle.ext_draft.specs.declared.draft.DraftRecorder.{DraftRecorder}
use Rattle.ext_draft.specs.declared.draft.DraftStep.{DraftStep}
use Rattle.ext_draft.specs.declared.draft.Setting.{Setting}

abbrev pub IsName : List ℕ → Type 0
IsName text = IsTrue (is_name text)

-- at most so many names
pub record AreNames (limit : ℕ) (texts : List (List ℕ)) : Type 0 where
  pub right : All IsName texts
  pub few : length texts ≤ limit

-- the field by which an ordered item is sorted
abbrev pub IsRightKind : ItemKind → Type 0
IsRightKind Simple = Unit {0}
IsRightKind Multi = Unit {0}
IsRightKind (Ordered by) = IsName by
IsRightKind Empty = Unit {0}

pub record IsRightItem (i : ItemDecl) : Type 0 where
  pub name : IsName i.name
  pub kind : IsRightKind i.kind

pub record IsRightBean (b : BeanDecl) : Type 0 where
  pub name : IsName b.name
  pub fields : AreNames 16 b.fields

pub record IsRightMethod (m : DraftMethod) : Type 0 where
  pub name : IsName m.name
  pub params : AreNames 8 m.params
  pub body : length m.body ≤ 65535

pub record IsRightRecorder (r : DraftRecorder) : Type 0 where
  pub name : IsName r.name
  pub fields : AreNames 16 r.fields
  pub statics : AreNames 16 r.statics
  pub methods : All IsRightMethod r.methods
  pub few : length r.methods ≤ 1024

pub record IsRightStep (s : DraftStep) : Type 0 where
  pub name : IsName s.name
  pub consumes : length s.consumes ≤ 64
  pub produces : length s.produces ≤ 64
  pub only_if : AreNames 64 s.only_if
  pub only_if_not : AreNames 64 s.only_if_not
  pub body : length s.body ≤ 65535

pub record IsRightExtension (e : DraftExtension) : Type 0 where
  pub name : IsName e.name
  pub items : All IsRightItem e.items
  pub beans : All IsRightBean e.beans
  pub recorders : All IsRightRecorder e.recorders
  pub steps : All IsRightStep e.steps

pub record KeepsLimits (d : Draft) : Type 0 where
  pub app : IsName d.app
  pub config : AreNames 1024 (map (λ (s : Setting). s.name) d.config)
  pub finals : length d.finals ≤ 2048
  pub extensions : length d.extensions ≤ 256
  pub each : All IsRightExtension d.extensions
  pub items : length (flat_map (λ (e : DraftExtension). e.items) d.extensions) ≤ 2048
  pub beans : length (flat_map (λ (e : DraftExtension). e.beans) d.extensions) ≤ 1024
  pub recorders : length (flat_map (λ (e : DraftExtension). e.recorders) d.extensions) ≤ 256
  pub methods : method_count (flat_map (λ (e : DraftExtension). e.recorders) d.extensions) ≤ 1024
  pub steps : length (flat_map (λ (e : DraftExtension). e.steps) d.extensions) ≤ 2048
