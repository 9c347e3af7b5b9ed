-- What a let of a text is read as, and each of its definitions, by what their parts are read as.
use Rattle.std.proofs.Common.{◌≡◌, suc, ◌<◌, ◌≤◌, List, [], ◌∷◌, get_or, length, refl, sym, ap, subst, ◌∙◌, Result, Ok, arith}
use Rattle.std.proofs.lemmas.Grind.{common_steps}
use Rattle.core_syntax.specs.declared.syntax.Pos.{Pos}
use Rattle.core_syntax.specs.SyntaxViews.{position}
use Rattle.model.specs.lists.Syntax.{Position, Name, ExprTree, LetTrees, let_expr}
use Rattle.text_reader.specs.declared.forms.TextForm.{TextForm}
use Rattle.text_reader.specs.declared.errors.Mistake.{Mistake}
use Rattle.text_reader.specs.declared.errors.Mistake.TheVariants as M
use Rattle.text_reader.specs.declared.errors.Problem.TheVariants.{Expected}
use Rattle.text_reader.specs.declared.errors.ReadFault.{ReadFault}
use Rattle.text_reader.specs.declared.errors.ReadFault.TheVariants.{Text}
use Rattle.text_reader.specs.Lexemes.{Wrong, ◌>>=◌}
use Rattle.text_reader.specs.FormViews.{form_view, all_view}
use Rattle.text_reader.specs.Grammar.{no, name_of}
use Rattle.text_reader.specs.ExprGrammar.{expr_of, let_of, lets_of, defined_in}
use Rattle.text_reader.specs.Views.{Fails}
use Rattle.text_reader.proofs.ReadLists.{fails-too}

-- what was expected is told at its place
pub told : {A : Type 0} (e : ReadFault) (m : Mistake) (at : Pos) (read : Result A Wrong) → e ≡ Text (record { problem = Expected m; pos = at }) → read ≡ no m (position at) → Fails e read
told e m at read is wrong = subst (λ f. Fails f read) (sym is) wrong

-- ---- a let

let-three : (fs : List TextForm) (d b : TextForm) (p e : Position) → length fs ≡ 3 → d ≡ get_or fs 1 d → b ≡ get_or fs 2 b
    → let_of (all_view fs) p e ≡ (lets_of (form_view d) >>= (λ defs. expr_of (form_view b) >>= (λ x. Ok (let_expr defs x p))))
let-three [] d b p e three hd hb = let k : 0 ≡ 3 = three in absurd (omega (arith, k))
let-three (h ∷ []) d b p e three hd hb = let k : 1 ≡ 3 = three in absurd (omega (arith, k))
let-three (h ∷ y ∷ []) d b p e three hd hb = let k : 2 ≡ 3 = three in absurd (omega (arith, k))
let-three (h ∷ y ∷ z ∷ []) d b p e three hd hb = grind (arith, common_steps)
let-three (h ∷ y ∷ z ∷ w ∷ fs) d b p e three hd hb = let k : suc (suc (suc (suc (length fs)))) ≡ 3 = three in absurd (omega (arith, k))

module _ (fs : List TextForm) (d b : TextForm) (p e : Position) (three : length fs ≡ 3) (hd : d ≡ get_or fs 1 d) (hb : b ≡ get_or fs 2 b) where
  pub let-is : (defs : LetTrees) (x : ExprTree) → lets_of (form_view d) ≡ Ok defs → expr_of (form_view b) ≡ Ok x → let_of (all_view fs) p e ≡ Ok (let_expr defs x p)
  let-is defs x ds is = grind (arith, common_steps, let-three fs d b p e three hd hb)

  pub let-definitionless : (f : ReadFault) → Fails f (lets_of (form_view d)) → Fails f (let_of (all_view fs) p e)
  let-definitionless f fails = grind (arith, fails-too f (lets_of (form_view d)) (let_of (all_view fs) p e) fails, let-three fs d b p e three hd hb)

  pub let-bodiless : (defs : LetTrees) (f : ReadFault) → lets_of (form_view d) ≡ Ok defs → Fails f (expr_of (form_view b)) → Fails f (let_of (all_view fs) p e)
  let-bodiless defs f ds fails = grind (arith, fails-too f (expr_of (form_view b)) (let_of (all_view fs) p e) fails, let-three fs d b p e three hd hb)

pub let-few : (fs : List TextForm) (p e : Position) → length fs < 2 → let_of (all_view fs) p e ≡ no M.LetDefinitions e
let-few (h ∷ y ∷ fs) p e few = let k : suc (suc (length fs)) < 2 = few in absurd (omega (arith, k))
let-few _ p e few = refl

pub let-two : (fs : List TextForm) (p e : Position) → length fs ≡ 2 → let_of (all_view fs) p e ≡ no M.Expression e
let-two [] p e two = let k : 0 ≡ 2 = two in absurd (omega (arith, k))
let-two (h ∷ []) p e two = let k : 1 ≡ 2 = two in absurd (omega (arith, k))
let-two (h ∷ y ∷ []) p e two = refl
let-two (h ∷ y ∷ z ∷ fs) p e two = let k : suc (suc (suc (length fs))) ≡ 2 = two in absurd (omega (arith, k))

-- ---- a definition

defined-three : (fs : List TextForm) (v t b : TextForm) (p : Position) → length fs ≡ 3 → v ≡ get_or fs 0 v → t ≡ get_or fs 1 t → b ≡ get_or fs 2 b
    → defined_in (all_view fs) p ≡ (name_of (form_view v) >>= (λ var. name_of (form_view t) >>= (λ ty. expr_of (form_view b) >>= (λ x. Ok (var, ty, x, p)))))
defined-three [] v t b p three hv ht hb = let k : 0 ≡ 3 = three in absurd (omega (arith, k))
defined-three (x ∷ []) v t b p three hv ht hb = let k : 1 ≡ 3 = three in absurd (omega (arith, k))
defined-three (x ∷ y ∷ []) v t b p three hv ht hb = let k : 2 ≡ 3 = three in absurd (omega (arith, k))
defined-three (x ∷ y ∷ z ∷ []) v t b p three hv ht hb = grind (arith, common_steps)
defined-three (x ∷ y ∷ z ∷ w ∷ fs) v t b p three hv ht hb = let k : suc (suc (suc (suc (length fs)))) ≡ 3 = three in absurd (omega (arith, k))

module _ (fs : List TextForm) (v t b : TextForm) (p : Position) (three : length fs ≡ 3) (hv : v ≡ get_or fs 0 v) (ht : t ≡ get_or fs 1 t) (hb : b ≡ get_or fs 2 b) (var ty : Name) (is_var : name_of (form_view v) ≡ Ok var) (is_ty : name_of (form_view t) ≡ Ok ty) where
  named : defined_in (all_view fs) p ≡ (expr_of (form_view b) >>= (λ x. Ok (var, ty, x, p)))
  named = grind (arith, common_steps, defined-three fs v t b p three hv ht hb)

  pub definition-is : (x : ExprTree) → expr_of (form_view b) ≡ Ok x → defined_in (all_view fs) p ≡ Ok (var, ty, x, p)
  definition-is x is = named ∙ ap (λ r. r >>= (λ y. Ok (var, ty, y, p))) is

  pub definition-valueless : (f : ReadFault) → Fails f (expr_of (form_view b)) → Fails f (defined_in (all_view fs) p)
  definition-valueless f fails = grind (arith, common_steps, fails-too, named)

pub defined-few : (fs : List TextForm) (p : Position) → length fs < 3 → defined_in (all_view fs) p ≡ no M.LetDefinitions p
defined-few (x ∷ y ∷ z ∷ fs) p few = let k : suc (suc (suc (length fs))) < 3 = few in absurd (omega (arith, k))
defined-few _ p few = refl

pub defined-many : (fs : List TextForm) (p : Position) → 4 ≤ length fs → defined_in (all_view fs) p ≡ no M.LetDefinitions p
defined-many [] p many = let k : 4 ≤ 0 = many in absurd (omega (arith, k))
defined-many (x ∷ []) p many = let k : 4 ≤ 1 = many in absurd (omega (arith, k))
defined-many (x ∷ y ∷ []) p many = let k : 4 ≤ 2 = many in absurd (omega (arith, k))
defined-many (x ∷ y ∷ z ∷ []) p many = let k : 4 ≤ 3 = many in absurd (omega (arith, k))
defined-many (x ∷ y ∷ z ∷ w ∷ fs) p many = refl
