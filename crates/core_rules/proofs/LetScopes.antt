-- The scopes of lets.
use Rattle.std.proofs.Common.{◌≡◌, ℕ, ◌+◌, ◌-◌, ◌<◌, take, get_or, cond, nat_eq, List, [], ◌∷◌, ◌++◌, length, Option, option_map, refl, sym, ap, ◌∙◌, arith}
use Rattle.std.proofs.lemmas.List.{take_more}
use Rattle.model.specs.rules.Typed.{TypedVar}
use Rattle.core_types.specs.declared.ids.Sym.{Sym}
use Rattle.core_typed.specs.declared.rules.BoundVar.{BoundVar}
use Rattle.core_rules.specs.Lets.{before_all}
use Rattle.core_rules.specs.declared.typing.progress.Progress.{Progress}
use Rattle.core_rules.specs.Progress.{newest, vars_of, PutsBack}
use Rattle.core_typed.specs.RuleViews.{var_view}

-- what names stood for, the last one hidden
pub hide_last : (hs : List (Sym × Option BoundVar)) (h : Sym × Option BoundVar) (k : ℕ) (now : Option TypedVar)
    → before_all (hs ++ h ∷ []) k now ≡ before_all hs k (cond (nat_eq h.0.0 k) (option_map var_view h.1) now)
hide_last [] h k now = refl
hide_last (g ∷ hs) h k now = ap (cond (nat_eq g.0.0 k) (option_map var_view g.1)) (hide_last hs h k now)

-- all but so many of the newest names were put back
pub record Closing (hidden : List (Sym × Option BoundVar)) (i : ℕ) (old new : Progress) : Type 0 where
  pub vars : vars_of new ≡ vars_of old
  pub names : (k : ℕ) → before_all (take (length hidden - i) hidden) k (newest new k) ≡ before_all hidden k (newest old k)
  pub expansions : new.expansions ≡ old.expansions
  pub errors : new.errors.items ≡ old.errors.items

pub one_closed : (hidden : List (Sym × Option BoundVar)) (i : ℕ) (old mid new : Progress) (g h : Sym × Option BoundVar) → i < length hidden
    → g ≡ get_or hidden (length hidden - 1 - i) h → PutsBack g.0.0 (option_map var_view g.1) mid new → Closing hidden i old mid → Closing hidden (i + 1) old new
one_closed hidden i old mid new g h lt is put c =
    let j : ℕ = length hidden - 1 - i in
    let more : length hidden - i ≡ j + 1 = omega (arith, lt) in
    let same : length hidden - (i + 1) ≡ j = omega (arith, lt) in
    record {
      vars = put.vars ∙ c.vars;
      names = λ k.
          ap (λ (n : ℕ). before_all (take n hidden) k (newest new k)) same
          ∙ ap (before_all (take j hidden) k) (put.names k)
          ∙ sym (hide_last (take j hidden) g k (newest mid k))
          ∙ ap (λ v. before_all (take j hidden ++ v ∷ []) k (newest mid k)) is
          ∙ ap (λ hs. before_all hs k (newest mid k)) (sym (take_more hidden j h (omega (arith, lt))))
          ∙ ap (λ (n : ℕ). before_all (take n hidden) k (newest mid k)) (sym more)
          ∙ c.names k;
      expansions = put.expansions ∙ c.expansions;
      errors = put.errors ∙ c.errors;
    }
