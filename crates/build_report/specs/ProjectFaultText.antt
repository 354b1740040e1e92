-- The text of why a file is no project: the path of the first fault and what is wrong there. This project's own.
use Rattle.std.specs.Prelude.{ℕ, List, [], ◌++◌, codes}
use Rattle.std.specs.Fmt.{decimal}
use Rattle.lang_grammar.specs.declared.fault.LangFault.{LangFault}
use Rattle.lang_grammar.specs.declared.fault.LangFault.TheVariants as lang
use Rattle.ext_parser.specs.declared.fault.ProjectFault.{ProjectFault}
use Rattle.ext_parser.specs.declared.fault.ProjectFault.TheVariants.{Limit, Toml, Field, Name, Repeated, Unknown, Body, Memory}

-- a token of the text at a path, and what is wrong with it
abbrev pub token_text : List ℕ → ℕ → List ℕ → List ℕ
token_text path at words = path ++ codes ": token " ++ decimal at ++ codes ": " ++ words

abbrev pub body_fault_text : List ℕ → LangFault → List ℕ
body_fault_text path (lang.Token at) = token_text path at (codes "wrong token")
body_fault_text path (lang.TooDeep at) = token_text path at (codes "too deep")
body_fault_text path (lang.Syntax at) = token_text path at (codes "syntax")
body_fault_text path (lang.Unknown at) = token_text path at (codes "unknown name")
body_fault_text path (lang.Undeclared at) = token_text path at (codes "wrong use")
-- it is never shown
body_fault_text path lang.Memory = []

abbrev pub project_fault_text : ProjectFault → List ℕ
project_fault_text (Limit path found) = path ++ codes ": " ++ decimal found ++ codes " is over the limit"
project_fault_text Toml = codes "file: not TOML"
project_fault_text (Field path) = path ++ codes ": wrong field"
project_fault_text (Name path) = path ++ codes ": wrong name"
project_fault_text (Repeated path) = path ++ codes ": repeated"
project_fault_text (Unknown path) = path ++ codes ": unknown name"
project_fault_text (Body path fault) = body_fault_text path fault
-- it is never shown
project_fault_text Memory = []
