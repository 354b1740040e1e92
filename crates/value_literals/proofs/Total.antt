-- The class of a recording fills a pool from its universe.
use Rattle.std.proofs.Common.{◌≡◌, ℕ, zero, suc, ◌+◌, ◌*◌, ◌<◌, ◌≤◌, Bool, true, false, cond, List, [], ◌∷◌, ◌++◌, length, take, drop, Option, Some, None, refl, sym, ap, subst, ◌∙◌, inl, inr, ◌⊎◌, arith, min}
use Rattle.std.specs.Prelude.{slice_get, codes}
use Rattle.std.specs.List.{flat_map}
use Rattle.item_types.specs.declared.decl.Names.{Names}
use Rattle.class_pool.specs.declared.entry.Entry.{Entry}
use Rattle.class_pool.specs.declared.class.Member.{Member}
use Rattle.class_pool.specs.declared.shown.Shown.{Shown}
use Rattle.class_pool.specs.declared.shown.Shown.TheVariants as shown
use Rattle.class_pool.specs.Showing.{Holds}
use Rattle.class_pool.specs.Enter.{enter}
use Rattle.class_pool.specs.declared.flags.Flags.{Flags}
use Rattle.class_pool.proofs.CallerLemmas.{holds_more}
use Rattle.class_code.specs.declared.opcode.Opcode.TheVariants as op
use Rattle.class_pool.specs.Growth.{Among, Covered, ReferRight, Grows}
use Rattle.recording_units.specs.declared.types.Used.{Used}
use Rattle.recording_units.specs.declared.types.Kind.{Kind}
use Rattle.recording_units.specs.declared.types.Piece.{Piece}
use Rattle.value_literals.specs.declared.op.Op.{Op}
use Rattle.value_literals.specs.declared.op.Op.TheVariants.{Plain, Naming}
use Rattle.recording_units.specs.Units.{Walked}
use Rattle.value_literals.specs.Code.{number_name, kind_class, of_class, unit_code, units_depth}
use Rattle.value_literals.specs.Emitted.{private_static, public_static, Filling, Parts, only, then, code_bytes, run_descriptor, part_name, part_of, parts_count, run_code, part, part_code, field_member, field_members, method_member, part_member, part_members, run_member, methods_of, of_units}
use Rattle.value_literals.specs.Members.{op_size, ops_size, made_field, made_method, IsField, AreFields, IsMethod, IsPart, AreParts, IsRun, AreMembers}
use Rattle.value_literals.specs.Universe.{fixed, fixed_ones, of_names, of_used, of_unit, of_parts, universe}
use Rattle.recording_units.proofs.CallerLemmas.{IsAt, PieceAt, PiecesAt}
use Rattle.value_literals.proofs.Filling.{Stable, Fills, fills_only, fills_then, fills_enter, fills_code, Done, code_more, OpIn, OpsIn, ops_append}
use Rattle.value_literals.proofs.Covers.{Sub, sub_left, sub_right, in_left, in_right, fixed_in, class_ins, run_descriptor_in, descriptor_in, number_in, unit_in}

abbrev Holding : ℕ → Shown → List Entry → Type 0
Holding i w fs = Holds fs i w

holding_stable : (i : ℕ) (w : Shown) → Stable (Holding i w)
holding_stable i w es more h = holds_more es more i w h

and_stable : (P Q : List Entry → Type 0) → Stable P → Stable Q → Stable (λ fs. P fs × Q fs)
and_stable P Q p q es more h = (p es more h.0, q es more h.1)

method_stable : (flags : Flags) (text : List ℕ) (stack : ℕ) (ops : List Op) (m : Member) → Stable (IsMethod flags text stack ops m)
method_stable flags text stack ops m es more h = (h.0, h.1, holds_more es more h.0.0 (shown.Text text) h.2, holds_more es more h.0.1 (shown.Text run_descriptor) h.3, holds_more es more h.0.2 (shown.Text (codes "Code")) h.4, h.5, code_more ops h.0.3 es more h.6)

field_stable : (names : Names) (n : ℕ) (u : Used) (m : Member) → Stable (IsField names n u m)
field_stable names n u m es more f = (f.0, f.1, holds_more es more f.0.0 (shown.Text (number_name n)) f.2, holds_more es more f.0.1 (shown.Text (of_class (kind_class names u.kind))) f.3)

fields_stable : (names : Names) (n : ℕ) (us : List Used) (ms : List Member) → Stable (AreFields names n us ms)
fields_stable names n [] ms es more h = h
fields_stable names n (u ∷ us) ms es more h =
    let f = h.3 in
    (h.0, h.1, h.2, field_stable names n u h.0 es more f, fields_stable names (n + 1) us h.1 es more h.4)

-- ---- sublists

CodesIn : List Shown → Names → List ℕ → List Piece → Type 0
CodesIn us names class [] = Unit {0}
CodesIn us names class (p ∷ ps) = OpsIn us (unit_code names class p) × CodesIn us names class ps

module _ (us : List Shown) (names : Names) (class : List ℕ) where
  codes_take : (n : ℕ) (ps : List Piece) → CodesIn us names class ps → CodesIn us names class (take n ps)
  unfolding CodesIn
  codes_take zero ps h = tt
  codes_take (suc n) [] h = tt
  codes_take (suc n) (p ∷ ps) h = (h.0, codes_take n ps h.1)

  codes_drop : (n : ℕ) (ps : List Piece) → CodesIn us names class ps → CodesIn us names class (drop n ps)
  unfolding CodesIn
  codes_drop zero ps h = h
  codes_drop (suc n) [] h = tt
  codes_drop (suc n) (p ∷ ps) h = codes_drop n ps h.1

  codes_ops : (ps : List Piece) → CodesIn us names class ps → OpsIn us (flat_map (unit_code names class) ps)
  unfolding CodesIn
  codes_ops [] h = tt
  codes_ops (p ∷ ps) h = ops_append us (unit_code names class p) (flat_map (unit_code names class) ps) h.0 (codes_ops ps h.1)

module _ (names : Names) (class : List ℕ) (used : List Used) (us : List Shown) (of_fixed : Sub (fixed class) us) (of_all : Sub (of_names names) us) (of_table : Sub (of_used names class 0 used) us) where
  all_codes : (ps : List Piece) → PiecesAt used ps → Sub (flat_map (of_unit names) ps) us → CodesIn us names class ps
  unfolding CodesIn
  all_codes [] h s = tt
  all_codes (p ∷ ps) h s =
      (unit_in names class used us of_fixed of_all of_table p h.0 (sub_left (of_unit names p) (flat_map (of_unit names) ps) us s), all_codes ps h.1 (sub_right (of_unit names p) (flat_map (of_unit names) ps) us s))

  run_in : (j n : ℕ) → Sub (of_parts class j n) us → OpsIn us (run_code class j n)
  run_in j zero s = (tt, tt)
  run_in j (suc n) s =
      (tt, ((class_ins names class used us of_fixed of_all of_table, (s _ (inl refl), run_descriptor_in names class used us of_fixed of_all of_table, s _ (inr (inl refl))), s _ (inr (inr (inl refl)))), run_in (j + 1) n (λ v i. s v (inr (inr (inr i))))))

  code_in : Covered us (shown.Text (codes "Code"))
  code_in = fixed_in names class used us of_fixed of_all of_table (shown.Text (codes "Code")) (inr (inr (inr (inr (inr (inr (inr (inr (inr (inl refl))))))))))

  run_name_in : Covered us (shown.Text (codes "run"))
  run_name_in = fixed_in names class used us of_fixed of_all of_table (shown.Text (codes "run")) (inr (inr (inr (inr (inr (inr (inr (inr (inr (inr (inl refl)))))))))))

  -- ---- fields

  fills_field : (P : List Entry → Type 0) (n : ℕ) (u : Used) → Stable P → Among (shown.Text (number_name n)) us → Fills us P (λ m fs. P fs × IsField names n u m fs) (field_member names n u)
  fills_field P n u s i =
      let d = of_class (kind_class names u.kind) in
      fills_then us P (λ name fs. P fs × Holds fs name (shown.Text (number_name n))) (λ m fs. P fs × IsField names n u m fs) (enter (shown.Text (number_name n))) _ (fills_enter us P (shown.Text (number_name n)) s i)
      (λ name. fills_then us (λ fs. P fs × Holds fs name (shown.Text (number_name n))) (λ descriptor fs. (P fs × Holds fs name (shown.Text (number_name n))) × Holds fs descriptor (shown.Text d)) (λ m fs. P fs × IsField names n u m fs) (enter (shown.Text d)) _
      (fills_enter us (λ fs. P fs × Holds fs name (shown.Text (number_name n))) (shown.Text d) (and_stable P (Holding name (shown.Text (number_name n))) s (holding_stable name (shown.Text (number_name n)))) (descriptor_in names class used us of_fixed of_all of_table u.kind))
      (λ descriptor. fills_only us (λ fs. (P fs × Holds fs name (shown.Text (number_name n))) × Holds fs descriptor (shown.Text d)) (λ m fs. P fs × IsField names n u m fs) (made_field (name, descriptor))
      (λ es p. (p.0.0, ((name, descriptor), refl, p.0.1, p.1)))))

  fills_fields : (P : List Entry → Type 0) (n : ℕ) (vs : List Used) → Stable P → Sub (of_used names class n vs) us → Fills us P (λ ms fs. P fs × AreFields names n vs ms fs) (field_members names n vs)
  fills_fields P n [] s h = fills_only us P (λ ms fs. P fs × AreFields names n [] ms fs) [] (λ es p. (p, refl))
  fills_fields P n (u ∷ vs) s h =
      fills_then us P (λ m fs. P fs × IsField names n u m fs) (λ ms fs. P fs × AreFields names n (u ∷ vs) ms fs) (field_member names n u) (λ m. then (field_members names (n + 1) vs) (λ ms. only (m ∷ ms))) (fills_field P n u s (h _ (inl refl)))
      (λ m. fills_then us (λ fs. P fs × IsField names n u m fs) (λ ms fs. (P fs × IsField names n u m fs) × AreFields names (n + 1) vs ms fs) (λ ms fs. P fs × AreFields names n (u ∷ vs) ms fs) (field_members names (n + 1) vs) (λ ms. only (m ∷ ms))
      (fills_fields (λ fs. P fs × IsField names n u m fs) (n + 1) vs
      (λ es more p. (s es more p.0, field_stable names n u m es more p.1)) (λ v i. h v (inr (inr (inr i)))))
      (λ ms. fills_only us (λ fs. (P fs × IsField names n u m fs) × AreFields names (n + 1) vs ms fs) (λ ms fs. P fs × AreFields names n (u ∷ vs) ms fs) (m ∷ ms) (λ es p. (p.0.0, (m, ms, refl, p.0.1, p.1)))))

  -- ---- methods

  fills_method : (P : List Entry → Type 0) (flags : Flags) (text : List ℕ) (stack : ℕ) (ops : List Op) → Stable P → Among (shown.Text text) us → OpsIn us ops → Fills us P (λ m fs. P fs × IsMethod flags text stack ops m fs) (method_member flags text stack ops)
  fills_method P flags text stack ops s i c =
      let P1 : ℕ → List Entry → Type 0 = λ n fs. P fs × Holds fs n (shown.Text text) in
      let P2 : ℕ → ℕ → List Entry → Type 0 = λ n d fs. P1 n fs × Holds fs d (shown.Text run_descriptor) in
      let P3 : ℕ → ℕ → ℕ → List Entry → Type 0 = λ n d k fs. P2 n d fs × Holds fs k (shown.Text (codes "Code")) in
      let s1 = λ (n : ℕ). and_stable P (Holding n (shown.Text text)) s (holding_stable n (shown.Text text)) in
      let s2 = λ (n d : ℕ). and_stable (P1 n) (Holding d (shown.Text run_descriptor)) (s1 n) (holding_stable d (shown.Text run_descriptor)) in
      let s3 = λ (n d k : ℕ). and_stable (P2 n d) (Holding k (shown.Text (codes "Code"))) (s2 n d) (holding_stable k (shown.Text (codes "Code"))) in
      let End : Member → List Entry → Type 0 = λ m fs. P fs × IsMethod flags text stack ops m fs in
      fills_then us P P1 End (enter (shown.Text text)) _ (fills_enter us P (shown.Text text) s i)
      (λ n. fills_then us (P1 n) (P2 n) End (enter (shown.Text run_descriptor)) _ (fills_enter us (P1 n) (shown.Text run_descriptor) (s1 n) (run_descriptor_in names class used us of_fixed of_all of_table))
      (λ d. fills_then us (P2 n d) (P3 n d) End (enter (shown.Text (codes "Code"))) _ (fills_enter us (P2 n d) (shown.Text (codes "Code")) (s2 n d) code_in)
      (λ k. fills_then us (P3 n d k) (Done us (P3 n d k) ops) End (code_bytes ops) _ (fills_code us (P3 n d k) ops (s3 n d k) c)
      (λ bytes. fills_only us (Done us (P3 n d k) ops bytes) End (made_method flags stack (n, d, k, bytes)) (λ es p. (p.0.0.0.0, ((n, d, k, bytes), refl, p.0.0.0.1, p.0.0.1, p.0.1, p.1, p.2)))))))

  fills_parts : (P : List Entry → Type 0) (ps : List Piece) (j n : ℕ) → Stable P → Sub (of_parts class j n) us → CodesIn us names class ps → Fills us P (λ ms fs. P fs × AreParts names class ps j n ms fs) (part_members names class ps j n)
  fills_parts P ps j zero s h c = fills_only us P (λ ms fs. P fs × AreParts names class ps j zero ms fs) [] (λ es p. (p, refl))
  fills_parts P ps j (suc n) s h c =
      let here : Member → List Entry → Type 0 = λ m fs. P fs × IsPart names class ps j m fs in
      let End : List Member → List Entry → Type 0 = λ ms fs. P fs × AreParts names class ps j (suc n) ms fs in
      let ops_in : OpsIn us (part_code names class (part ps j)) =
      ops_append us (flat_map (unit_code names class) (part ps j)) (Plain op.Return ∷ []) (codes_ops us names class (part ps j) (codes_take us names class 200 (drop (200 * j) ps) (codes_drop us names class (200 * j) ps c))) (tt, tt) in
      fills_then us P here End (part_member names class ps j) _ (fills_method P private_static (part_name j) (units_depth (part ps j)) (part_code names class (part ps j)) s (h _ (inl refl)) ops_in)
      (λ m. fills_then us (here m) (λ ms fs. here m fs × AreParts names class ps (j + 1) n ms fs) End (part_members names class ps (j + 1) n) _
      (fills_parts (here m) ps (j + 1) n (λ es more p. (s es more p.0, method_stable private_static (part_name j) (units_depth (part ps j)) (part_code names class (part ps j)) m es more p.1)) (λ v i. h v (inr (inr (inr i)))) c)
      (λ ms. fills_only us (λ fs. here m fs × AreParts names class ps (j + 1) n ms fs) End (m ∷ ms) (λ es p. (p.0.0, (m, ms, refl, p.0.1, p.1)))))

  pub fills_all : (ps : List Piece) → PiecesAt used ps → Sub (flat_map (of_unit names) ps) us → Sub (of_parts class 0 (parts_count ps)) us →
      Fills us (λ es. Unit {0}) (λ p fs. AreMembers names class (used, ps) p fs) (of_units names class (used, ps))
  fills_all ps at of_units_too of_all_parts =
      let n = parts_count ps in
      let codes_too = all_codes ps at of_units_too in
      let End : Parts → List Entry → Type 0 = λ p fs. AreMembers names class (used, ps) p fs in
      let F : List Member → List Entry → Type 0 = λ ms fs. Unit {0} × AreFields names 0 used ms fs in
      let R : List Member → Member → List Entry → Type 0 = λ ms run fs. F ms fs × IsRun class n run fs in
      let sf = λ (ms : List Member). and_stable (λ fs. Unit {0}) (AreFields names 0 used ms) (λ es more p. tt) (fields_stable names 0 used ms) in
      let sr = λ (ms : List Member) (run : Member). and_stable (F ms) (IsRun class n run) (sf ms) (method_stable public_static (codes "run") (min 1 n) (run_code class 0 n) run) in
      let M : List Member → List Member → List Entry → Type 0 = λ ms methods fs. F ms fs × ((run : Member) × (parts : List Member) × (methods ≡ run ∷ parts) × IsRun class n run fs × AreParts names class ps 0 n parts fs) in
      fills_then us (λ es. Unit {0}) F End (field_members names 0 used) _ (fills_fields (λ es. Unit {0}) 0 used (λ es more p. tt) of_table)
      (λ ms. fills_then us (F ms) (M ms) End (methods_of names class ps) _
      (fills_then us (F ms) (R ms) (M ms) (run_member class n) _ (fills_method (F ms) public_static (codes "run") (min 1 n) (run_code class 0 n) (sf ms) run_name_in (run_in 0 n of_all_parts))
      (λ run. fills_then us (R ms run) (λ parts fs. R ms run fs × AreParts names class ps 0 n parts fs) (M ms) (part_members names class ps 0 n) _ (fills_parts (R ms run) ps 0 n (sr ms run) of_all_parts codes_too)
      (λ parts. fills_only us (λ fs. R ms run fs × AreParts names class ps 0 n parts fs) (M ms) (run ∷ parts) (λ es p. (p.0.0, (run, parts, refl, p.0.1, p.1))))))
      (λ methods. fills_only us (M ms methods) End (ms, methods) (λ es p. (p.0.1, p.1))))
