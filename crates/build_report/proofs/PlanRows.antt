-- The rows of a plan: one step after another, and that a plan has no two lists of rows.
use Rattle.std.proofs.Common.{◌≡◌, ◌∙◌, ap, refl, sym, subst, ℕ, zero, suc, ◌+◌, ◌<◌, ◌≤◌, inl, inr, ◌↔◌, List, [], ◌∷◌, ◌++◌, length, append_assoc, append-nil, Contains, get_or, codes, arith}
use Rattle.std.specs.Fmt.{decimal}
use Rattle.std.proofs.lemmas.Grind.{flat_map-append}
use Rattle.std.specs.List.Sorted.{IsStrictlyIncreasing}
use Rattle.std.proofs.lemmas.Bool.{cases_eq}
use Rattle.std.proofs.lemmas.List.{map-append, length_push}
use Rattle.std.proofs.lemmas.List.Elements.{Contains-push, Contains-push_cases, Contains-append_left}
use Rattle.item_types.specs.declared.step.StepDecl.{StepDecl}
use Rattle.chain_builder.specs.Needed.{IsNeeded}
use Rattle.chain_builder.specs.Edge.{HasEdge}
use Rattle.chain_builder.specs.FaultText.{step_name}
use Rattle.build_report.specs.PlanText.{PlanRow, IsRow, ArePlanRows, steps_of, after_text, row_text, rows_text, count_text, IsPlanText, AppendsRow, AppendsRows}
use Rattle.build_report.proofs.Rising.{rising_push, in_head, in_tail, in_none}

name_at : (steps : List StepDecl) (s : ℕ) (decl : StepDecl) → s < length steps → decl ≡ get_or steps s decl → step_name steps s ≡ decl.ext ++ codes "." ++ decl.name
name_at [] s decl within is = absurd (omega (arith, within))
name_at (d ∷ steps) zero decl within is = rw (sym is) refl
name_at (d ∷ steps) (suc s) decl within is = name_at steps s decl (omega (arith, within)) is

regroup : (before head number name after end : List ℕ)
    → ((before ++ (head ++ number ++ codes " " ++ name)) ++ after) ++ end ≡ before ++ (head ++ number ++ codes " " ++ name ++ after ++ end)
regroup before head number name after end = simp append_assoc

ungroup : (head number ext name : List ℕ) → head ++ number ++ codes " " ++ ext ++ codes "." ++ name ≡ head ++ number ++ codes " " ++ (ext ++ codes "." ++ name)
ungroup head number ext name = simp append_assoc

module _ (steps : List StepDecl) (finals : List ℕ) where
  pub rows_none : ArePlanRows steps finals 0 []
  rows_none = record {
    needed = λ s. (λ c. absurd (in_none s c), λ n. absurd (omega (arith, n.0)));
    ascending = λ k h. absurd (omega (arith, h));
    each = λ row c. absurd (in_none row c);
  }

  pub rows_skip : (n : ℕ) (rows : List PlanRow) → ArePlanRows steps finals n rows → (IsNeeded steps finals n → ⊥) → ArePlanRows steps finals (n + 1) rows
  rows_skip n rows are not_needed = record {
    needed = λ s. (
      λ c. let h = (are.needed s).0 c in (omega (arith, h.0), h.1),
      λ h. elim (cases_eq s n) [
        | inl e ↦ absurd (not_needed (subst (IsNeeded steps finals) e h.1))
        | inr ne ↦ (are.needed s).1 (omega (arith, h.0), h.1)
      ],
    );
    ascending = are.ascending;
    each = are.each;
  }

  pub rows_more : (n : ℕ) (rows : List PlanRow) (row : PlanRow) → ArePlanRows steps finals n rows → IsNeeded steps finals n → row.step ≡ n → IsRow steps finals row
      → ArePlanRows steps finals (n + 1) (rows ++ row ∷ [])
  rows_more n rows row are needed is is_row =
      let e : steps_of (rows ++ row ∷ []) ≡ steps_of rows ++ n ∷ [] = map-append (λ (r : PlanRow). r.step) rows (row ∷ []) ∙ ap (λ m. steps_of rows ++ m ∷ []) is in
      record {
        needed = λ s. (
          λ c. elim (Contains-push_cases (steps_of rows) n s (subst (λ xs. Contains xs s) e c)) [
            | inl old ↦ let h = (are.needed s).0 old in (omega (arith, h.0), h.1)
            | inr q ↦ (omega (arith, q), subst (IsNeeded steps finals) q needed)
          ],
          λ h. subst (λ xs. Contains xs s) (sym e) (elim (cases_eq s n) [
            | inl q ↦ subst (Contains (steps_of rows ++ n ∷ [])) (sym q) (Contains-push (steps_of rows) n)
            | inr ne ↦ Contains-append_left (steps_of rows) (n ∷ []) s ((are.needed s).1 (omega (arith, h.0), h.1))
          ]),
        );
        ascending = subst IsStrictlyIncreasing (sym e) (rising_push (steps_of rows) n are.ascending (λ y c. ((are.needed y).0 c).0));
        each = λ r c. elim (Contains-push_cases rows row r c) [ inl old ↦ are.each r old | inr q ↦ subst (IsRow steps finals) q is_row ];
      }

  rows_text_more : (rows : List PlanRow) (row : PlanRow) → rows_text steps (rows ++ row ∷ []) ≡ rows_text steps rows ++ row_text steps row
  rows_text_more rows row = flat_map-append (row_text steps) rows (row ∷ []) ∙ ap (λ t. rows_text steps rows ++ t) (append-nil (row_text steps row))

  pub row_appended : (step : ℕ) (decl : StepDecl) (after before a b now : List ℕ) → step < length steps → decl ≡ get_or steps step decl
      → ((p : ℕ) → Contains after p ↔ HasEdge steps finals p step) → IsStrictlyIncreasing after
      → a ≡ before ++ (codes "step " ++ decimal step ++ codes " " ++ decl.ext ++ codes "." ++ decl.name) → b ≡ a ++ after_text after → now ≡ b ++ codes "\n"
      → AppendsRow steps finals before now step
  row_appended step decl after before a b now within is edges ascending p q r = (
    record { step = step; after = after },
    refl,
    record { edges = edges; ascending = ascending },
    let named : step_name steps step ≡ decl.ext ++ codes "." ++ decl.name = name_at steps step decl within is in
        let head : codes "step " ++ decimal step ++ codes " " ++ decl.ext ++ codes "." ++ decl.name ≡ codes "step " ++ decimal step ++ codes " " ++ step_name steps step =
        ungroup (codes "step ") (decimal step) decl.ext decl.name ∙ ap (λ n. codes "step " ++ decimal step ++ codes " " ++ n) (sym named) in
        r ∙ ap (λ t. t ++ codes "\n") (q ∙ ap (λ t. t ++ after_text after) (p ∙ ap (λ h. before ++ h) head))
        ∙ regroup before (codes "step ") (decimal step) (step_name steps step) (after_text after) (codes "\n"),
  )

  -- how far the lines have come
  pub record AreLinesBelow (n planned : ℕ) (before now : List ℕ) : Type 0 where
    pub rows : List PlanRow
    pub are : ArePlanRows steps finals n rows
    pub text : now ≡ before ++ rows_text steps rows
    pub count : planned ≡ length rows
    pub few : planned ≤ n

  pub lines_none : (before : List ℕ) → AreLinesBelow 0 0 before before
  lines_none before = record { rows = []; are = rows_none; text = sym (append-nil before); count = refl; few = omega arith }

  pub lines_skip : (n planned : ℕ) (before now : List ℕ) → AreLinesBelow n planned before now → (IsNeeded steps finals n → ⊥) → AreLinesBelow (n + 1) planned before now
  lines_skip n planned before now l skipped = record { rows = l.rows; are = rows_skip n l.rows l.are skipped; text = l.text; count = l.count; few = omega (arith, l.few) }

  pub lines_more : (n planned : ℕ) (before now then : List ℕ) → AreLinesBelow n planned before now → IsNeeded steps finals n → AppendsRow steps finals now then n
      → AreLinesBelow (n + 1) (planned + 1) before then
  lines_more n planned before now then l needed a = record {
    rows = l.rows ++ a.0 ∷ [];
    are = rows_more n l.rows a.0 l.are needed a.1 a.2;
    text = a.3 ∙ ap (λ t. t ++ row_text steps a.0) l.text ∙ append_assoc before (rows_text steps l.rows) (row_text steps a.0)
        ∙ ap (λ t. before ++ t) (sym (rows_text_more l.rows a.0));
    count = ap (λ k. k + 1) l.count ∙ sym (length_push l.rows a.0);
    few = omega (arith, l.few);
  }

  pub lines_all : (planned : ℕ) (before now : List ℕ) → AreLinesBelow (length steps) planned before now → AppendsRows steps finals before now planned
  lines_all planned before now l = (l.rows, l.are, l.text, l.count)

  pub text_is : (app before lines now : List ℕ) (planned : ℕ) → before ≡ [] → AppendsRows steps finals before lines planned → now ≡ lines ++ count_text app planned (length steps)
      → IsPlanText app steps finals now
  text_is app before lines now planned empty a is = (
    a.0,
    a.1,
    is ∙ ap (λ t. t ++ count_text app planned (length steps)) (a.2 ∙ ap (λ t. t ++ rows_text steps a.0) empty) ∙ ap (λ k. rows_text steps a.0 ++ count_text app k (length steps)) a.3,
  )

-- ascending lists with the same numbers are equal
abbrev pub AscendingAreEqual : Type 0
AscendingAreEqual = (xs ys : List ℕ) → IsStrictlyIncreasing xs → IsStrictlyIncreasing ys → ((n : ℕ) → Contains xs n ↔ Contains ys n) → xs ≡ ys

module _ (equal : AscendingAreEqual) (steps : List StepDecl) (finals : List ℕ) where
  same_rows : (rows others : List PlanRow) → ((row : PlanRow) → Contains rows row → IsRow steps finals row) → ((row : PlanRow) → Contains others row → IsRow steps finals row)
      → steps_of rows ≡ steps_of others → rows ≡ others
  same_rows [] [] are ore e = refl
  same_rows [] (o ∷ others) are ore e = cc
  same_rows (r ∷ rows) [] are ore e = cc
  same_rows (r ∷ rows) (o ∷ others) are ore e =
      let p : r.step ≡ o.step = cc in
      let a = are r (in_head r rows) in
      let b = ore o (in_head o others) in
      let q : r.after ≡ o.after = equal r.after o.after a.ascending b.ascending (λ n. (
        λ c. (b.edges n).1 (subst (HasEdge steps finals n) p ((a.edges n).0 c)),
        λ c. (a.edges n).1 (subst (HasEdge steps finals n) (sym p) ((b.edges n).0 c)),
      )) in
      let first : r ≡ o = λ i. record { step = p i; after = q i } in
      let rest : rows ≡ others = same_rows rows others (λ row c. are row (in_tail r rows row c)) (λ row c. ore row (in_tail o others row c)) (cc) in
      ap (λ z. z ∷ rows) first ∙ ap (λ zs. o ∷ zs) rest

  pub one_text : (app text other : List ℕ) → IsPlanText app steps finals text → IsPlanText app steps finals other → text ≡ other
  one_text app text other a b =
      let e : steps_of a.0 ≡ steps_of b.0 = equal (steps_of a.0) (steps_of b.0) a.1.ascending b.1.ascending (λ n. (
        λ c. (b.1.needed n).1 ((a.1.needed n).0 c),
        λ c. (a.1.needed n).1 ((b.1.needed n).0 c),
      )) in
      let r : a.0 ≡ b.0 = same_rows a.0 b.0 a.1.each b.1.each e in
      a.2 ∙ ap (λ rows. rows_text steps rows ++ count_text app (length rows) (length steps)) r ∙ sym b.2
