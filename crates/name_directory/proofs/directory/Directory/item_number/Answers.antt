use Rattle.std.proofs.Common.{◌∙◌, ap, map, refl}
use Rattle.item_types.specs.declared.decl.Names.{Names}
use Rattle.item_types.specs.declared.decl.ItemDecl.{ItemDecl}
use Rattle.syntax_tree.specs.Naming.{item_number}
use Rattle.name_index.specs.Place.{place}
use Rattle.name_directory.specs.Numbers.{number_at}
use Rattle.name_directory.proofs.Found.{numbered}
use Rattle.name_directory.proofs.directory.Directory.item_number.Goals as goal

pub returns : goal.returns
returns c =
    c.number_at.ensures
    ∙ ap number_at (c.copied.ensures ∙ c.get.ensures.value ∙ c.self.invariant.items c.as_str.result.now ∙ ap (place (map (λ (x : ItemDecl). x.name) c.self.inside.names.now.items)) c.as_str.ensures)
    ∙ numbered (λ (x : ItemDecl). x.name) c.self.inside.names.now.items (map (λ (x : ItemDecl). x.name) c.self.inside.names.now.items) c.args.word.now refl
    ∙ ap (λ (names : Names). item_number names c.args.word.now) c.self.view_is
