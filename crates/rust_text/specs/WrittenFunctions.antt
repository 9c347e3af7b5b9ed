-- The functions of terms as they are written, and the code of a program.
use Rattle.std.specs.Prelude.{◌≡◌, ℕ, Bool, List, [], ◌∷◌, ◌++◌, Option, Some, None, codes, slice_get}
use Rattle.std.specs.List.{flat_map}
use Rattle.model.specs.lists.Signatures.{constructor_gives, text_of}
use Rattle.model.specs.lists.Syntax.{Definition}
use Rattle.model.specs.lists.Tables.{TypeEntry, TermEntry}
use Rattle.model.specs.lists.Elaborated.{TypedRules}
use Rattle.model.specs.rules.Program.{Program, flags_of, kind_of}
use Rattle.model.specs.claims.Layers.{own_program, LoweredTerm, LoweringAnswers}
use Rattle.model_code.specs.Notation.{ReturnForm, gives_one, gives_option, gives_many}
use Rattle.model_code.specs.ProgramNotation.{notation_of}
use Rattle.model_code.specs.Spelling.{spelled}
use Rattle.model_code.specs.Written.{function_body}
use Rattle.laws_code.specs.TextRuns.{kind_of_giving}
use Rattle.core_types.specs.EnvViews.{environment_view}
use Rattle.core_rules.specs.ShownEnvs.{environment_shown_by}
use Rattle.rust_code.specs.CodeOf.{code_in_program}
use Rattle.rust_items.specs.FilePlaces.{Sources}
use Rattle.rust_items.specs.RustNames.{part}
use Rattle.rust_items.specs.WrittenTypes.{outputs_written, parameters_written}
use Rattle.cranelift_isle.specs.declared.lower.Lowered.{Lowered}
use Rattle.cranelift_isle.specs.Lowerings.{lowered_views}
use Rattle.rust_text.specs.ProgramNames.{NameSetting, names_of}

-- what functions are written by beside a program: the texts of names, files, and whether results are logged
pub record TextSetting : Type 0 where
  pub names : List (List ℕ)
  pub sources : Sources
  pub is_logged : Bool

-- what a function gives: a value, a value or nothing, or a list that it puts values into
abbrev pub one_written : List (List ℕ) → List TypeEntry → List ℕ → List ℕ
one_written names types tys = codes ") -> " ++ outputs_written names types tys

abbrev pub option_written : List (List ℕ) → List TypeEntry → List ℕ → List ℕ
option_written names types tys = codes ") -> Option<" ++ (outputs_written names types tys ++ codes ">")

abbrev pub many_written : List (List ℕ) → List TypeEntry → List ℕ → List ℕ
many_written names types tys = codes ", returns: &mut (impl Extend<" ++ (outputs_written names types tys ++ codes "> + Length)) -> ()")

abbrev pub result_written : List (List ℕ) → List TypeEntry → ReturnForm → List ℕ → List ℕ
result_written names types gives_one tys = one_written names types tys
result_written names types gives_option tys = option_written names types tys
result_written names types gives_many tys = many_written names types tys

-- a function's lines up to its body: the term's name in a comment, then name, parameters and result
abbrev pub title_written : (name : List ℕ) → List ℕ
title_written name = codes "\n/// `" ++ (name ++ (codes "`\n" ++ codes "#[allow(warnings)]\n"))

abbrev pub begin_written : (name : List ℕ) → List ℕ
begin_written name = codes "pub fn constructor_" ++ (part name ++ codes "<C: Context>(ctx: &mut C")

abbrev pub head_written : List (List ℕ) → List TypeEntry → ReturnForm → (name : List ℕ) → (params rets : List ℕ) → List ℕ
head_written names types kind name params rets =
    title_written name ++ (begin_written name ++ (parameters_written names types 0 params ++ (result_written names types kind rets ++ codes " {\n")))

-- what the function of a term gives, by its flags
abbrev pub kind_of_entry : TermEntry → ReturnForm
kind_of_entry e = kind_of_giving (constructor_gives (flags_of (kind_of e)))

-- what the names of a term's function are written by
abbrev pub setting_of_entry : TextSetting → Program → TermEntry → NameSetting
setting_of_entry s p e = record { names = s.names; types = p.types; terms = p.terms; sources = s.sources; term_name = e.name; term_at = e.at }

-- the function of a term with rules: its first lines, and the text of the code of its tree
abbrev pub body_of_entry : TextSetting → Program → LoweredTerm → TermEntry → List ℕ
body_of_entry s p l e = spelled (names_of (setting_of_entry s p e)) (function_body (notation_of p (kind_of_entry e) s.is_logged) (code_in_program p l.term l.set.sites l.tree))

abbrev pub head_of_entry : TextSetting → Program → TermEntry → List ℕ
head_of_entry s p e = head_written s.names p.types (kind_of_entry e) (text_of s.names e.name) e.arg_tys (e.ret_ty ∷ [])

abbrev pub function_of_entry : TextSetting → Program → LoweredTerm → TermEntry → List ℕ
function_of_entry s p l e = head_of_entry s p e ++ body_of_entry s p l e

abbrev pub function_or_nothing : TextSetting → Program → LoweredTerm → Option TermEntry → List ℕ
function_or_nothing s p l None = []
function_or_nothing s p l (Some e) = function_of_entry s p l e

abbrev pub function_in : TextSetting → Program → LoweredTerm → List ℕ
function_in s p l = function_or_nothing s p l (slice_get p.terms l.term)

-- the functions of terms, one after another
abbrev pub functions_in : TextSetting → Program → List LoweredTerm → List ℕ
functions_in s p ls = flat_map (function_in s p) ls

-- what holds of the program of each definitions that a list is an answer of
abbrev pub OfAnswer : Lowered → (Program → Type 0) → Type 0
OfAnswer l P =
    (defs : List Definition) (expand : Bool) (rules : TypedRules)
    → LoweringAnswers defs expand (environment_view l.tyenv) (environment_shown_by l.termenv) rules (lowered_views l.terms.items) → P (own_program defs rules)
