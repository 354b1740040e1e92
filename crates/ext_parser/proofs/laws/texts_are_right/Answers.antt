use Rattle.std.specs.List.{AllZip}
use Rattle.syntax_tree.specs.Right.{IsRightBody, IsRightMethod, AreRightMethods}
use Rattle.ext_draft.specs.DraftOfTheBytes.{draft}
use Rattle.ext_parser.specs.Declarations.{keys_on, names_of}
use Rattle.ext_parser.specs.ProjectOfTheBytes.{project}
use Rattle.ext_parser.specs.SecondWalk.{item_names, items_of}
use Rattle.ext_parser.specs.RightTexts.{IsReadBody, IsReadMethod, AreReadMethods}
use Rattle.ext_parser.specs.declared.project.Project.{Project}
use Rattle.ext_parser.proofs.ReadTexts.{texts-are, of-draft, read-methods, right-methods}
use Rattle.ext_parser.proofs.laws.texts_are_right.Goals as goal

pub returns-clause-bodies : goal.returns-clause-bodies
unfolding project
returns-clause-bodies c = λ bytes. of-draft (λ (p : Project). AllZip (IsReadBody p.names) p.steps p.bodies) (draft bytes) (λ d t h. (texts-are (names_of d.extensions) (IsReadBody (names_of d.extensions)) (IsReadMethod (names_of d.extensions)) (λ decl text b e. (text, (c.answers_are_sentences.ensures.bodies (names_of d.extensions) decl text b).0 e)) (λ recorder m text x e. (text, (c.answers_are_sentences.ensures.methods (names_of d.extensions) recorder m text x).0 e)) (item_names (items_of d.extensions)) (keys_on d.config) 0 0 d.extensions t h).bodies)

pub returns-clause-right_bodies : goal.returns-clause-right_bodies
unfolding project
returns-clause-right_bodies c = λ bytes. of-draft (λ (p : Project). AllZip (IsRightBody p.names) p.steps p.bodies) (draft bytes) (λ d t h. (texts-are (names_of d.extensions) (IsRightBody (names_of d.extensions)) (λ recorder i m. IsRightMethod (names_of d.extensions) recorder m) (λ decl text b e. c.read_is_right.ensures.bodies (names_of d.extensions) decl b text ((c.answers_are_sentences.ensures.bodies (names_of d.extensions) decl text b).0 e)) (λ recorder m text x e. c.read_is_right.ensures.methods (names_of d.extensions) recorder m x text ((c.answers_are_sentences.ensures.methods (names_of d.extensions) recorder m text x).0 e)) (item_names (items_of d.extensions)) (keys_on d.config) 0 0 d.extensions t h).bodies)

pub returns-clause-methods : goal.returns-clause-methods
unfolding project
returns-clause-methods c = λ bytes. of-draft (λ (p : Project). AreReadMethods p.names p.methods) (draft bytes) (λ d t h. read-methods (names_of d.extensions) t.lists ((texts-are (names_of d.extensions) (IsReadBody (names_of d.extensions)) (IsReadMethod (names_of d.extensions)) (λ decl text b e. (text, (c.answers_are_sentences.ensures.bodies (names_of d.extensions) decl text b).0 e)) (λ recorder m text x e. (text, (c.answers_are_sentences.ensures.methods (names_of d.extensions) recorder m text x).0 e)) (item_names (items_of d.extensions)) (keys_on d.config) 0 0 d.extensions t h).lists))

pub returns-clause-right_methods : goal.returns-clause-right_methods
unfolding project
returns-clause-right_methods c = λ bytes. of-draft (λ (p : Project). AreRightMethods p.names p.methods) (draft bytes) (λ d t h. right-methods (names_of d.extensions) t.lists ((texts-are (names_of d.extensions) (IsRightBody (names_of d.extensions)) (λ recorder i m. IsRightMethod (names_of d.extensions) recorder m) (λ decl text b e. c.read_is_right.ensures.bodies (names_of d.extensions) decl b text ((c.answers_are_sentences.ensures.bodies (names_of d.extensions) decl text b).0 e)) (λ recorder m text x e. c.read_is_right.ensures.methods (names_of d.extensions) recorder m x text ((c.answers_are_sentences.ensures.methods (names_of d.extensions) recorder m text x).0 e)) (item_names (items_of d.extensions)) (keys_on d.config) 0 0 d.extensions t h).lists))
