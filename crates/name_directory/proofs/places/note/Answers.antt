use Rattle.std.proofs.Common.{◌≡◌, ◌∙◌, sym, subst, List, ℕ, OnOk}
use Rattle.std.specs.HashMap.{get_by_text}
use Rattle.std.specs.Prelude.{string_bytes}
use Rattle.name_index.specs.Indexed.{noted_at}
use Rattle.name_directory.proofs.Found.{noted}
use Rattle.name_directory.proofs.places.note.Goals as goal
use Rattle.name_directory.proofs.places.note.Goals.{in-Ok, in-Err}

pub returns : goal.returns
returns c =
    let Noted : Type 0 = (text : List ℕ) → get_by_text c.insert.new.self text ≡ noted_at c.args.name.now c.args.place (get_by_text c.args.places.now text) text in
    elim c.match-insert.branch [
      | in-Ok w ↦
          subst (λ r. OnOk r Noted) (sym w.result-is)
          (noted c.args.places.now c.insert.new.self (string_bytes c.in_ok-key.key) c.args.name.now c.get.result c.args.place c.in_ok-key.ensures.ok c.get.ensures.value (sym c.is_some.ensures ∙ c.if-is_some.false) w.in-Ok.ensures.updates)
      | in-Err w ↦ subst (λ r. OnOk r Noted) (sym w.result-is) tt
    ]
