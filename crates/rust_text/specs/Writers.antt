-- The notation of a program's code, by the tables that the code of a writer looks things up in.
use Rattle.std.specs.Prelude.{◌≡◌, ℕ, List}
use Rattle.model.specs.rules.Program.{Program}
use Rattle.model.specs.rules.Typed.{TypedRule}
use Rattle.model.specs.sites.Serves.{constant_type}
use Rattle.model_code.specs.Notation as N
use Rattle.model_code.specs.Notation.{Notation, ReturnForm, gives_one, gives_option, gives_many}
use Rattle.model_code.specs.ProgramNotation.{notation_of}
use Rattle.core_types.specs.Envs.{constant_at}
use Rattle.core_types.specs.TypeViews.{type_views}
use Rattle.core_terms.specs.TermViews.{term_views}
use Rattle.core_terms.specs.declared.signature.ReturnKind.{ReturnKind}
use Rattle.core_terms.specs.declared.signature.ReturnKind.TheVariants as R
use Rattle.rust_text.specs.declared.notation.Shape.{Shape}
use Rattle.rust_text.specs.declared.notation.Shape.TheVariants as S
use Rattle.rust_text.specs.declared.notation.Writer.{Writer}

abbrev pub gives_view : ReturnKind → ReturnForm
gives_view R.Plain = gives_one
gives_view R.Option = gives_option
gives_view R.Iterator = gives_many

abbrev pub shape_view : Shape → N.Shape
shape_view S.Unit = N.no_fields
shape_view (S.Named count) = N.named_fields count
shape_view (S.Unnamed count) = N.unnamed_fields count

-- the program of a writer's tables, with these constants and rules
abbrev pub program_by : Writer → List (ℕ × ℕ) → List TypedRule → Program
program_by w constants rules = record { types = type_views w.program.tyenv.now.types.items; constants = constants; terms = term_views w.program.terms.now; rules = rules }

abbrev pub notation_by : Writer → List (ℕ × ℕ) → List TypedRule → Notation
notation_by w constants rules = notation_of (program_by w constants rules) (gives_view w.gives) w.program.is_logged

-- a notation is that of a writer's program
pub record IsNotationOf (w : Writer) (p : Notation) : Type 0 where
  pub constants : List (ℕ × ℕ)
  pub rules : List TypedRule
  pub types : (name : ℕ) → constant_type (program_by w constants rules) name ≡ constant_at w.program.tyenv.now name
  pub is : p ≡ notation_by w constants rules

-- what holds of each notation of a writer's program
abbrev pub Says : Writer → (Notation → Type 0) → Type 0
Says w P = (p : Notation) → IsNotationOf w p → P p
