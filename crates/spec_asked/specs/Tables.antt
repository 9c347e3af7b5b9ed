-- The program and the specs that tables are of.
use Rattle.std.specs.Prelude.{◌≡◌, ℕ, suc, List, [], ◌∷◌, map}
use Rattle.model.specs.lists.Tables.{TermEntry}
use Rattle.model.specs.rules.Program.{Program}
use Rattle.laws_specs.specs.Specs as L
use Rattle.core_types.specs.TypeViews.{type_views}
use Rattle.spec_cases.specs.Expressions.{Saying}
use Rattle.spec_cases.specs.Sorts.{type_sorts, function_sorts}
use Rattle.spec_cases.specs.Steps.{constant_views}
use Rattle.spec_steps.specs.declared.demands.Signature.{Signature}
use Rattle.spec_steps.specs.declared.demands.TermSaid.{TermSaid}
use Rattle.spec_asked.specs.declared.tables.ProgramTables.{ProgramTables}
use Rattle.spec_asked.specs.declared.tables.SpecTables.{SpecTables}

-- the types of a term
abbrev pub signature_view : Signature → List ℕ × ℕ
signature_view s = (map (λ t. t.0) s.args.items, s.result.0)

abbrev pub entry_types : TermEntry → List ℕ × ℕ
entry_types e = (e.arg_tys, e.ret_ty)

-- tables are of a program's types and terms
pub record AreOfProgram (d : ProgramTables) (p : Program) : Type 0 where
  pub types : type_views d.types.now ≡ p.types
  pub signatures : map signature_view d.signatures.now ≡ map entry_types p.terms

-- what is said of a term, and of each, by their numbers from n on
abbrev pub spec_view : Saying → TermSaid → L.Spec
spec_view w s = record { require = map (λ e. w.expr e.0) s.require.items; provide = map (λ e. w.expr e.0) s.provide.items }

abbrev pub spec_views : Saying → ℕ → List TermSaid → List (ℕ × L.Spec)
spec_views w n [] = []
spec_views w n (s ∷ ss) = (n, spec_view w s) ∷ spec_views w (suc n) ss

-- the specs, by what the numbers of expressions stand for, whatever unknown functions answer
abbrev pub specs_of : SpecTables → Saying → L.Unknowns → L.Specs
specs_of d w unknowns = record {
  models = type_sorts d.sorts.now;
  constants = constant_views d.constants.now;
  unknowns = unknowns;
  unknown_sorts = function_sorts d.functions.now;
  terms = spec_views w 0 d.said.now;
}
