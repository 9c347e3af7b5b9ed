-- What the names of a term's function are written by.
use Rattle.std.specs.Prelude.{[], false}
use Rattle.core_syntax.specs.SyntaxViews.{position}
use Rattle.core_syntax.specs.declared.syntax.Files.{Files}
use Rattle.core_types.specs.Envs.{names_of}
use Rattle.core_types.specs.TypeViews.{type_views}
use Rattle.core_terms.specs.declared.term.Term.{Term}
use Rattle.core_terms.specs.TermViews.{term_views}
use Rattle.rust_items.specs.LineViews.{lines_view}
use Rattle.rust_items.specs.SourceViews.{sources_view}
use Rattle.rust_items.specs.declared.options.CodegenOptions.{CodegenOptions}
use Rattle.cranelift_isle.specs.declared.lower.Lowered.{Lowered}
use Rattle.rust_items.specs.declared.program.Program.{Program}
use Rattle.rust_text.specs.ProgramNames.{NameSetting}
use Rattle.rust_text.specs.WrittenFunctions.{TextSetting}
use Rattle.rust_text.specs.declared.notation.Writer.{Writer}

abbrev pub setting_by : Writer → Term → NameSetting
setting_by w t = record {
  names = names_of w.program.tyenv.now;
  types = type_views w.program.tyenv.now.types.items;
  terms = term_views w.program.terms.now;
  sources = lines_view w.program.lines.now;
  term_name = t.name.0;
  term_at = position t.decl_pos;
}

-- what the functions of a program are written by
abbrev pub setting_by_program : Program → TextSetting
setting_by_program p = record { names = names_of p.tyenv.now; sources = lines_view p.lines.now; is_logged = p.is_logged }

-- what the functions of an answer are written by, for files, with these options
abbrev pub setting_by_options : Lowered → Files → CodegenOptions → TextSetting
setting_by_options l files options = record { names = names_of l.tyenv; sources = sources_view files options.prefixes.items; is_logged = options.emit_logging }

-- the same for code that `include!` takes in: whole file names, and no logging
abbrev pub setting_of_included : Lowered → Files → TextSetting
setting_of_included l files = record { names = names_of l.tyenv; sources = sources_view files []; is_logged = false }
