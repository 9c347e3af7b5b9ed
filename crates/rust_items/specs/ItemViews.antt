-- What a program is written by, and what the functions of its `Context` say.
use Rattle.std.specs.Prelude.{ℕ, List, map, Option, option_map, string_bytes, String}
use Rattle.std.specs.HashMap.{HashMap, get_by_text}
use Rattle.core_syntax.specs.SyntaxViews.{position}
use Rattle.cranelift_isle.specs.Envs.{names_of}
use Rattle.cranelift_isle.specs.TypeViews.{type_views}
use Rattle.rust_items.specs.declared.context.Added.{Added}
use Rattle.rust_items.specs.declared.program.Program.{Program}
use Rattle.rust_items.specs.LineViews.{lines_view}
use Rattle.rust_items.specs.WrittenItems.{ContextFunction, ItemSetting}

abbrev pub items_by : Program → ItemSetting
items_by p = record { names = names_of p.tyenv.now; types = type_views p.tyenv.now.types.items; sources = lines_view p.lines.now }

abbrev pub added_view : Added → ContextFunction
added_view f = record { name = string_bytes f.name; text = string_bytes f.text; at = position f.pos }

abbrev pub added_views : List Added → List ContextFunction
added_views fs = map added_view fs

-- what has a name so far
abbrev pub held_in : {Y S : Type 0} → HashMap (String Y) Added S → List ℕ → Option ContextFunction
held_in m q = option_map added_view (get_by_text m q)
