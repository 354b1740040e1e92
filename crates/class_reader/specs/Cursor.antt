-- What a cursor shows: a place in the bytes. This project's own.
use Rattle.std.specs.Prelude.{◌+◌, ◌<◌, ◌^◌, length}
use Rattle.class_reader.specs.declared.cursor.Cursor.TheInside.{Inside}
use Rattle.class_grammar.specs.Layout.{Place}

abbrev pub place_of : Inside → Place
place_of c = record { rest = c.rest.now; at = c.at }

abbrev pub IsSmall : Inside → Type 0
IsSmall c = c.at + length c.rest.now < 2 ^ 32
