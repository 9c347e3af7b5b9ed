-- What an expression calls, where it elaborates under some flags.
use Rattle.std.proofs.Common.{◌≡◌, ℕ, true, List, Option, Some, arith}
use Rattle.std.proofs.lemmas.Grind.{common_steps}
use Rattle.model.specs.lists.Syntax.{ExprTree, ExprTrees, LetTrees}
use Rattle.model.specs.lists.Tables.{Flags, TermEntry}
use Rattle.model.specs.rules.CalledTerms.{CallsAlone, CallAlone, LetsCallAlone}
use Rattle.model.specs.rules.Typed.{TypedExpr, TypedExprs, TypedLets}
use Rattle.model.specs.lists.Setting.{Setting, Scope, entry_named, is_callable}
use Rattle.model.specs.lists.Elaborates.{ElaboratesExpr, ElaboratesArgs, ElaboratesLets, a_call, converted_call, converted_variable, let_in, no_arg, an_arg, no_def, a_def}

-- each term that these flags let be called is such
abbrev pub CallableAreSuch : Setting → Flags → (ℕ → Type 0) → Type 0
CallableAreSuch e flags P = (name : ℕ) (t : TermEntry) → entry_named name e.terms ≡ Some t → is_callable flags t.kind ≡ true → P t.id

module _ (e : Setting) (flags : Flags) (P : ℕ → Type 0) (such : CallableAreSuch e flags P) where
  mutual
    pub expr_calls : {d n : ℕ} {ty : Option ℕ} {x : ExprTree} {s t : Scope} {q : TypedExpr} → ElaboratesExpr e flags d x ty s q t n → CallsAlone P q
    expr_calls (a_call {entry = entry} i j k g) = (such _ entry i k, args_call g)
    expr_calls (converted_call i j k g) = expr_calls g
    expr_calls (converted_variable i j k g) = expr_calls g
    expr_calls (let_in g i) = (lets_call g, expr_calls i)
    expr_calls h = grind (arith, common_steps)

    args_call : {d n : ℕ} {tys : List ℕ} {xs : ExprTrees} {s t : Scope} {qs : TypedExprs} → ElaboratesArgs e flags d xs tys s qs t n → CallAlone P qs
    args_call no_arg = tt
    args_call (an_arg g i) = (expr_calls g, args_call i)

    lets_call : {d n : ℕ} {ls : LetTrees} {s t : Scope} {ds : TypedLets} → ElaboratesLets e flags d ls s ds t n → LetsCallAlone P ds
    lets_call no_def = tt
    lets_call (a_def i g k) = (expr_calls g, lets_call k)
