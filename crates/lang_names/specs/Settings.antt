-- What a setting shows. This project's own.
use Rattle.lang_names.specs.declared.setting.Setting.{Setting}
use Rattle.syntax_tree.specs.Known.{Known}

-- what the names of a text may stand for
abbrev pub known_of : Setting → Known
known_of s = record { names = s.names.now; consumes = s.consumes.now; produces = s.produces.now; records = s.records; fields = s.fields.now; statics = s.statics.now }
