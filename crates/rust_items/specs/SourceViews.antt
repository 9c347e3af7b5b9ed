-- Files, with beginnings of their names.
use Rattle.std.specs.Prelude.{List, map, string_bytes}
use Rattle.core_syntax.specs.declared.syntax.Files.{Files}
use Rattle.rust_items.specs.declared.options.Prefix.{Prefix}
use Rattle.rust_items.specs.FilePlaces.{Beginning, Sources}

abbrev pub beginning_view : Prefix → Beginning
beginning_view p = record { text = string_bytes p.prefix; shown = string_bytes p.name }

abbrev pub sources_view : Files → List Prefix → Sources
sources_view files prefixes = record {
  names = map string_bytes files.names.items;
  texts = map string_bytes files.texts.items;
  beginnings = map beginning_view prefixes;
}
