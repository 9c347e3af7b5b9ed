-- What the names of a function's code are written by.
use Rattle.std.specs.Prelude.{ℕ}
use Rattle.core_syntax.specs.SyntaxViews.{position}
use Rattle.core_types.specs.Builtin.{builtin_place}
use Rattle.core_types.specs.declared.builtin.BuiltinType.TheVariants.{Int}
use Rattle.core_types.specs.declared.builtin.IntType.{IntType}
use Rattle.core_types.specs.Envs.{names_of}
use Rattle.core_types.specs.TypeViews.{type_views}
use Rattle.core_terms.specs.TermViews.{term_views}
use Rattle.rust_items.specs.LineViews.{lines_view}
use Rattle.rust_text.specs.declared.names.Names.{Names}
use Rattle.rust_text.specs.ProgramNames.{NameSetting}

abbrev pub setting_of : Names → NameSetting
setting_of n = record {
  names = names_of n.program.tyenv.now;
  types = type_views n.program.tyenv.now.types.items;
  terms = term_views n.program.terms.now;
  sources = lines_view n.program.lines.now;
  term_name = n.term.now.name.0;
  term_at = position n.term.now.decl_pos;
}

abbrev pub int_place : IntType → ℕ
int_place ty = builtin_place (Int ty)
