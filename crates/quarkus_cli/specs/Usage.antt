-- The line that says how the program is used, as the sink gets it. This project's own.
use Rattle.std.specs.Prelude.{ℕ, List, codes}

abbrev pub usage : List ℕ
usage = codes "usage: plan FILE | build FILE OUT [--workers N] | start FILE OUT | run FILE OUT [--workers N] | dump FILE | gen N [--workers W] | check FILE OUT | verify FILE OUT | compile FILE OUT\n"
