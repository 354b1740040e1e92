-- What a cursor shows: the place that it is at.
use Rattle.std.specs.Prelude.{◌+◌, ◌<◌, ◌^◌, length}
use Rattle.lang_reader.specs.declared.cursor.Cursor.TheInside.{Inside}
use Rattle.lang_grammar.specs.Place.{Place}

abbrev pub place_of : Inside → Place
place_of c = record { rest = c.rest.now; at = c.at }

abbrev pub IsSmall : Inside → Type 0
IsSmall c = c.at + length c.rest.now < 2 ^ 32
