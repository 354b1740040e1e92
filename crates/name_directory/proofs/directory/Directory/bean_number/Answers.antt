use Rattle.std.proofs.Common.{◌∙◌, ap, map, refl}
use Rattle.item_types.specs.declared.decl.Names.{Names}
use Rattle.item_types.specs.declared.decl.BeanDecl.{BeanDecl}
use Rattle.syntax_tree.specs.Naming.{bean_number}
use Rattle.name_index.specs.Place.{place}
use Rattle.name_directory.specs.Numbers.{number_at}
use Rattle.name_directory.proofs.Found.{numbered}
use Rattle.name_directory.proofs.directory.Directory.bean_number.Goals as goal

pub returns : goal.returns
returns c =
    c.number_at.ensures
    ∙ ap number_at (c.copied.ensures ∙ c.get.ensures.value ∙ c.self.invariant.beans c.as_str.result.now ∙ ap (place (map (λ (x : BeanDecl). x.name) c.self.inside.names.now.beans)) c.as_str.ensures)
    ∙ numbered (λ (x : BeanDecl). x.name) c.self.inside.names.now.beans (map (λ (x : BeanDecl). x.name) c.self.inside.names.now.beans) c.args.word.now refl
    ∙ ap (λ (names : Names). bean_number names c.args.word.now) c.self.view_is
