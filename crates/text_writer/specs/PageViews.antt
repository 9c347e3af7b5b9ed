-- A page, without where it lies in memory.
use Rattle.std.specs.Prelude.{ℕ, List, string_bytes}
use Rattle.std.specs.Str.{chars}
use Rattle.text_writer.specs.declared.gaps.Last.{Last}
use Rattle.text_writer.specs.declared.layout.Page.{Page}
use Rattle.text_writer.specs.declared.parts.PlacedPart.{PlacedPart}
use Rattle.text_writer.specs.ListViews.{lists_view}
use Rattle.text_writer.specs.Pages.{Layout}
use Rattle.text_writer.specs.PartViews.{placed_view, part_view}
use Rattle.text_writer.specs.Plans.{Planned, gap_before}

abbrev pub page_view : Page → Layout
page_view page = record { indentation = page.indentation; last = page.last; at = page.at; lists = lists_view page.lists }

abbrev pub page_chars : Page → List ℕ
page_chars page = chars (string_bytes page.text)

abbrev pub planned_view : Last → PlacedPart → Planned
planned_view last placed = record { gap = gap_before last (placed_view placed); piece = part_view placed.part }
