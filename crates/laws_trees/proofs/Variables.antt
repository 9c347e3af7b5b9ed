-- Variables of a match and of a visit: both name one site for each, and the value is the site's.
use Rattle.std.proofs.Common.{◌≡◌, ℕ, ◌==◌, true, false, List, ◌∷◌, Option, Some, is_some, sym, subst, inl, inr, ◌∙◌, eqb-true, arith}
use Rattle.std.proofs.lemmas.Bool.{cases_Bool, cond-true, cond-false}
use Rattle.std.proofs.lemmas.Grind.{common_steps}
use Rattle.model.specs.rules.Values.{Value, well_typed}
use Rattle.model.specs.rules.Meaning.{Content, just, look}
use Rattle.model.specs.rules.Picks.{Sited, SitedVars, sited, sited_value, sites_in}
use Rattle.model.specs.sites.Sites.{SiteTerm}
use Rattle.model.specs.visits.Demands.{or_no_site, unwraps}
use Rattle.model.specs.lists.Formed.{var_type}
use Rattle.model.proofs.Elements.{In, some_is}
use Rattle.laws_trees.proofs.Contents.{Given, content_of, value_of, Here, has_value}

-- the site of a variable
abbrev pub named : List (ℕ × SiteTerm) → ℕ → SiteTerm
named vs x = or_no_site (look (λ k. k == x) vs)

-- a call answers something
abbrev pub IsPresent : Given → SiteTerm → Type 0
IsPresent g u = (c : Content) × (content_of g u ≡ Some (just c))

abbrev pub AllPresent : Given → List SiteTerm → Type 0
AllPresent g us = (u : SiteTerm) → In us u → IsPresent g u

-- what is valued so has this site, and its value, if any, is the site's and of this type; it has one where the calls that
-- it unwraps answer
pub record IsValued (g : Given) (own : SiteTerm) (o : Option Value) (ty : ℕ) (s : SiteTerm) : Type 0 where
  pub site : own ≡ s
  pub value : o ≡ value_of g s
  pub typed : (v : Value) → o ≡ Some v → well_typed g.program.types ty v ≡ true
  pub reached : AllPresent g (unwraps s) → (v : Value) × (o ≡ Some v)

-- so is a variable
abbrev pub IsVar : Given → SitedVars → List (ℕ × SiteTerm) → ℕ → ℕ → Type 0
IsVar g e vs x ty = IsValued g (named (sites_in e) x) (sited_value e x) ty (named vs x)

-- so are all variables that can be used
abbrev pub AreVars : Given → List (ℕ × ℕ) → SitedVars → List (ℕ × SiteTerm) → Type 0
AreVars g vars e vs = (x ty : ℕ) → var_type vars x ≡ Some ty → IsVar g e vs x ty

-- a site with a value
pub here_valued : (g : Given) (s : SiteTerm) (ty : ℕ) (v : Value) → Here g s ty v → IsValued g s (Some v) ty s
here_valued g s ty v h = grind (arith, common_steps, has_value, some_is)

-- the variable that is bound last
pub var_bound : (g : Given) (x ty : ℕ) (own s : SiteTerm) (o : Option Value) (e : SitedVars) (vs : List (ℕ × SiteTerm)) → IsValued g own o ty s → IsVar g ((x, sited own o) ∷ e) ((x, s) ∷ vs) x ty
var_bound g x ty own s o e vs h = grind (arith, common_steps, value_of)

-- another variable
pub var_kept : (g : Given) (x y ty : ℕ) (a : Sited) (s : SiteTerm) (e : SitedVars) (vs : List (ℕ × SiteTerm)) → (x == y) ≡ false → IsVar g e vs y ty → IsVar g ((x, a) ∷ e) ((x, s) ∷ vs) y ty
var_kept g x y ty a s e vs n h = grind (arith, common_steps, value_of)

-- where the visit names the same site
pub var_moved : (g : Given) (e : SitedVars) (vs ws : List (ℕ × SiteTerm)) (x ty : ℕ) → named ws x ≡ named vs x → IsVar g e vs x ty → IsVar g e ws x ty
var_moved g e vs ws x ty q h = grind (arith, common_steps, value_of)

-- a variable that isn't among others is none of them
pub not_among : (vars : List (ℕ × ℕ)) (x y ty : ℕ) → is_some (var_type vars x) ≡ false → var_type vars y ≡ Some ty → (x == y) ≡ false
not_among vars x y ty new h = grind (arith, common_steps)

-- one more variable
pub vars_and : (g : Given) (x ty : ℕ) (vars : List (ℕ × ℕ)) (own s : SiteTerm) (o : Option Value) (e : SitedVars) (vs : List (ℕ × SiteTerm)) → is_some (var_type vars x) ≡ false
    → IsValued g own o ty s → AreVars g vars e vs → AreVars g ((x, ty) ∷ vars) ((x, sited own o) ∷ e) ((x, s) ∷ vs)
vars_and g x ty vars own s o e vs new h f y u q =
    elim (cases_Bool (x == y)) [
      | inl t ↦
          let same : ty ≡ u = some_is ty u (sym (cond-true (x == y) (Some ty) (var_type vars y) t) ∙ q) in
          subst (λ n. IsVar g ((x, sited own o) ∷ e) ((x, s) ∷ vs) n u) (eqb-true x y t)
          (subst (IsVar g ((x, sited own o) ∷ e) ((x, s) ∷ vs) x) same (var_bound g x ty own s o e vs h))
      | inr n ↦ var_kept g x y u (sited own o) s e vs n (f y u (sym (cond-false (x == y) (Some ty) (var_type vars y) n) ∙ q))
    ]
