-- What the code holds of a text, without where it lies in memory.
use Rattle.std.specs.Prelude.{List, map, string_bytes}
use Rattle.std.specs.Str.{chars}
use Rattle.text_reader.specs.Pieces.{Piece, line, block, left, right, bind, name, sign, endless, alone}
use Rattle.text_writer.specs.declared.parts.Part.{Part}
use Rattle.text_writer.specs.declared.parts.Part.TheVariants as P
use Rattle.text_writer.specs.declared.parts.PlacedPart.{PlacedPart}
use Rattle.text_writer.specs.declared.parts.Scan.{Scan}
use Rattle.text_writer.specs.declared.parts.State.{State}
use Rattle.text_writer.specs.declared.parts.State.TheVariants as S
use Rattle.text_writer.specs.Placing.{Placed, Placing}
use Rattle.text_writer.specs.Scanning.{ScanMode, start, between, opened, in_name, in_sign, in_line, in_block, in_endless}

abbrev pub part_view : Part → Piece
part_view P.Open = left
part_view P.Close = right
part_view P.Bind = bind
part_view (P.Name s) = name (chars (string_bytes s))
part_view (P.Sign s) = sign (chars (string_bytes s))
part_view P.Alone = alone
part_view (P.Line s) = line (chars (string_bytes s))
part_view (P.Block s) = block (chars (string_bytes s))
part_view (P.Endless s) = endless (chars (string_bytes s))

abbrev pub placed_view : PlacedPart → Placed
placed_view p = record { piece = part_view p.part; breaks = p.breaks; spaces = p.spaces }

abbrev pub placed_views : List PlacedPart → List Placed
placed_views ps = map placed_view ps

abbrev pub mode_view : State → ScanMode
mode_view S.Start = start
mode_view S.Between = between
mode_view S.Opened = opened
mode_view (S.Name s) = in_name (chars (string_bytes s))
mode_view (S.Sign s) = in_sign (chars (string_bytes s))
mode_view (S.Line s) = in_line (chars (string_bytes s))
mode_view (S.Block s depth last) = in_block (chars (string_bytes s)) depth last
mode_view (S.Endless s) = in_endless (chars (string_bytes s))

abbrev pub placing_view : Scan → Placing
placing_view scan = record { breaks = scan.breaks; spaces = scan.spaces; done = placed_views scan.parts.items }
