-- What a list of a text is read as, by what its parts are read as.
use Rattle.std.proofs.Common.{◌≡◌, suc, ℕ, ◌+◌, ◌<◌, ◌≤◌, List, [], ◌∷◌, ◌++◌, drop, get_or, length, refl, sym, ap, ◌∙◌, true, false, Result, Ok, Vec, arith}
use Rattle.std.specs.Prelude.{Bool, codes, if◌then◌else◌}
use Rattle.model.specs.lists.Syntax.{Position, Name}
use Rattle.std.specs.declared.alloc.Global.{Global}
use Rattle.std.proofs.lemmas.Grind.{common_steps}
use Rattle.core_syntax.specs.declared.syntax.Pos.{Pos}
use Rattle.text_reader.specs.declared.forms.TextForm.{TextForm, Group}
use Rattle.text_reader.specs.PassedOver.{begins_passed_over, is_passed_over}
use Rattle.text_reader.specs.declared.errors.Mistake.TheVariants as M
use Rattle.text_reader.specs.declared.errors.ReadFault.{ReadFault}
use Rattle.text_reader.specs.Lexemes.{Wrong, ◌>>=◌}
use Rattle.text_reader.specs.FormTrees.{FormTree, a_list, FormTrees}
use Rattle.text_reader.specs.FormViews.{form_view, all_view}
use Rattle.text_reader.specs.Grammar.{no, reads, head_of}
use Rattle.text_reader.specs.Views.{Fails}
use Rattle.text_reader.proofs.ReadLists.{fails-too, group-view}
use Rattle.text_reader.proofs.ReadTrees.{AllIsEach, AreRead, before, begun, put, failed, done}
use Rattle.text_reader.specs.declared.syntax.SpecExpr.{SpecExpr}
use Rattle.text_reader.specs.SpecTrees.{SpecExprTree, spec_unit, spec_op, spec_cases, spec_pair, SpecExprTrees, no_spec_expr, spec_expr_and}
use Rattle.text_reader.specs.SpecViews.{spec_expr_view, spec_expr_views}
use Rattle.text_reader.specs.SpecGrammar.{is_empty, has_cases, has_three, let_of, with_of, as_of, spec_expr_of, spec_exprs_of, arguments_of, switch_of, three_of, two_of, defs_of, name_list_of, model_type_of, pairs_of, pair_of, pair_in}

-- whether a list is passed over
pub group-passed : (form : TextForm) (v : Vec TextForm Global) (p e : Pos) (fs : List TextForm) → form ≡ Group v p e → fs ≡ v.items → begins_passed_over (all_view fs) ≡ is_passed_over (form_view form)
group-passed form v p e fs is at = sym (ap is_passed_over (group-view form v p e fs is at))

-- a list that has a part
pub some-parts : (gs : List TextForm) → 1 ≤ length gs → false ≡ is_empty (all_view gs)
some-parts [] one = let k : 1 ≤ 0 = one in absurd (omega (arith, k))
some-parts (g ∷ gs) one = refl

-- ---- a list of parts

module _ (fs : FormTrees) (at ends : Position) where
  abbrev by_other_word : Name → Result SpecExprTree Wrong
  by_other_word op = if has_three op then three_of op fs at ends else (arguments_of fs >>= (λ args. Ok (spec_op op args at)))

  abbrev by_word : Name → Result SpecExprTree Wrong
  by_word op = if has_cases op then switch_of op fs at ends else by_other_word op

  abbrev whole : Result SpecExprTree Wrong
  whole = spec_expr_of (a_list fs at ends)

  pub empty-list : is_empty fs ≡ true → whole ≡ Ok (spec_unit at)
  empty-list none = ap (λ b. if b then Ok (spec_unit at) else (head_of fs ends >>= by_word)) none

  module _ (some : is_empty fs ≡ false) where
    by-head : whole ≡ (head_of fs ends >>= by_word)
    by-head = ap (λ b. if b then Ok (spec_unit at) else (head_of fs ends >>= by_word)) some

    pub headless : (e : ReadFault) → Fails e (head_of fs ends) → Fails e whole
    headless e fails = fails-too e (head_of fs ends) whole fails (λ w h. by-head ∙ ap (λ r. r >>= by_word) h)

    module _ (op : Name) (h : head_of fs ends ≡ Ok op) where
      pub is-switch : has_cases op ≡ true → switch_of op fs at ends ≡ whole
      is-switch is = grind (arith, common_steps, by-head)

      by-other : has_cases op ≡ false → whole ≡ by_other_word op
      by-other is = by-head ∙ ap (λ r. r >>= by_word) h ∙ ap (λ b. if b then switch_of op fs at ends else by_other_word op) is

      pub is-three : has_cases op ≡ false → has_three op ≡ true → three_of op fs at ends ≡ whole
      is-three is three = grind (arith, common_steps, by-other)

      by-arguments : has_cases op ≡ false → has_three op ≡ false → whole ≡ (arguments_of fs >>= (λ args. Ok (spec_op op args at)))
      by-arguments is three = grind (arith, common_steps, by-other)

      pub is-operation : (args : SpecExprTrees) → has_cases op ≡ false → has_three op ≡ false → arguments_of fs ≡ Ok args → whole ≡ Ok (spec_op op args at)
      is-operation args is three a = by-arguments is three ∙ ap (λ r. r >>= (λ xs. Ok (spec_op op xs at))) a

      pub argumentless : (e : ReadFault) → has_cases op ≡ false → has_three op ≡ false → Fails e (arguments_of fs) → Fails e whole
      argumentless e is three fails = grind (arith, common_steps, fails-too, by-arguments)

-- ---- a switch

value-first : (op : Name) (gs : List TextForm) (v : TextForm) (p e : Position) → 2 ≤ length gs → v ≡ get_or gs 1 v
    → switch_of op (all_view gs) p e ≡ (spec_expr_of (form_view v) >>= (λ x. pairs_of (all_view (drop 2 gs)) >>= (λ xs. Ok (spec_cases op x xs p))))
value-first op [] v p e two is = let k : 2 ≤ 0 = two in absurd (omega (arith, k))
value-first op (h ∷ []) v p e two is = let k : 2 ≤ 1 = two in absurd (omega (arith, k))
value-first op (h ∷ y ∷ gs) v p e two is = grind (arith, common_steps)

pub few-cases : (op : Name) (gs : List TextForm) (p e : Position) → length gs < 2 → switch_of op (all_view gs) p e ≡ no M.Expression e
few-cases op (h ∷ y ∷ gs) p e few = let k : suc (suc (length gs)) < 2 = few in absurd (omega (arith, k))
few-cases op _ p e few = refl

module _ (op : Name) (fs : List TextForm) (v : TextForm) (p e : Position) where
  module _ (two : 2 ≤ length fs) (is : v ≡ get_or fs 1 v) where
    by-value : switch_of op (all_view fs) p e ≡ (spec_expr_of (form_view v) >>= (λ x. pairs_of (all_view (drop 2 fs)) >>= (λ xs. Ok (spec_cases op x xs p))))
    by-value = value-first op fs v p e two is

    pub valueless : (f : ReadFault) → Fails f (spec_expr_of (form_view v)) → Fails f (switch_of op (all_view fs) p e)
    valueless f fails = grind (arith, common_steps, fails-too, by-value)

    module _ (x : SpecExprTree) (value : spec_expr_of (form_view v) ≡ Ok x) where
      pub caseless : (f : ReadFault) → Fails f (pairs_of (all_view (drop 2 fs))) → Fails f (switch_of op (all_view fs) p e)
      caseless f fails = grind (arith, common_steps, fails-too, by-value)

      pub switch-is : (xs : SpecExprTrees) → pairs_of (all_view (drop 2 fs)) ≡ Ok xs → switch_of op (all_view fs) p e ≡ Ok (spec_cases op x xs p)
      switch-is xs cases = grind (arith, common_steps, by-value)

-- ---- two forms behind `let`, `with` or `as`

-- what is made of two things that are read one after the other
module _ {A B C : Type 0} (both : A → B → C) (first : Result A Wrong) (second : Result B Wrong) (all : Result C Wrong) (is : all ≡ (first >>= (λ x. second >>= (λ y. Ok (both x y))))) where
  pub firstless : (e : ReadFault) → Fails e first → Fails e all
  firstless e fails = fails-too e first all fails (λ w h. is ∙ ap (λ r. r >>= (λ x. second >>= (λ y. Ok (both x y)))) h)

  module _ (x : A) (has : first ≡ Ok x) where
    pub secondless : (e : ReadFault) → Fails e second → Fails e all
    secondless e fails = grind (arith, common_steps, fails-too)

    pub both-read : (y : B) → second ≡ Ok y → all ≡ Ok (both x y)
    both-read y h = is ∙ ap (λ r. r >>= (λ a. second >>= (λ b. Ok (both a b)))) has ∙ ap (λ r. r >>= (λ b. Ok (both x b))) h

abbrev by_two : Name → FormTree → FormTree → Position → Result SpecExprTree Wrong
by_two op f g p = two_of op (defs_of f) (name_list_of f) (spec_expr_of f) (spec_expr_of g) (model_type_of g) p

three-parts : (op : Name) (gs : List TextForm) (a b : TextForm) (p e : Position) → length gs ≡ 3 → a ≡ get_or gs 1 a → b ≡ get_or gs 2 b
    → three_of op (all_view gs) p e ≡ by_two op (form_view a) (form_view b) p
three-parts op [] a b p e three ha hb = let k : 0 ≡ 3 = three in absurd (omega (arith, k))
three-parts op (x ∷ []) a b p e three ha hb = let k : 1 ≡ 3 = three in absurd (omega (arith, k))
three-parts op (x ∷ y ∷ []) a b p e three ha hb = let k : 2 ≡ 3 = three in absurd (omega (arith, k))
three-parts op (x ∷ y ∷ z ∷ []) a b p e three ha hb = grind (arith, common_steps)
three-parts op (x ∷ y ∷ z ∷ w ∷ gs) a b p e three ha hb = let k : suc (suc (suc (suc (length gs)))) ≡ 3 = three in absurd (omega (arith, k))

module _ (op : Name) (gs : List TextForm) (a b : TextForm) (p e : Position) (three : length gs ≡ 3) (ha : a ≡ get_or gs 1 a) (hb : b ≡ get_or gs 2 b) where
  abbrev either : Bool → Bool → Result SpecExprTree Wrong
  either l w =
      if l then let_of (defs_of (form_view a)) (spec_expr_of (form_view b)) p
      else if w then with_of (name_list_of (form_view a)) (spec_expr_of (form_view b)) p
      else as_of (spec_expr_of (form_view a)) (model_type_of (form_view b)) p

  pub behind-let : reads op (codes "let") ≡ true → three_of op (all_view gs) p e ≡ let_of (defs_of (form_view a)) (spec_expr_of (form_view b)) p
  behind-let is = three-parts op gs a b p e three ha hb ∙ ap (λ l. either l (reads op (codes "with"))) is

  pub behind-with : reads op (codes "let") ≡ false → reads op (codes "with") ≡ true
      → three_of op (all_view gs) p e ≡ with_of (name_list_of (form_view a)) (spec_expr_of (form_view b)) p
  behind-with other is = three-parts op gs a b p e three ha hb ∙ ap (λ l. either l (reads op (codes "with"))) other ∙ ap (either false) is

  pub behind-as : reads op (codes "let") ≡ false → reads op (codes "with") ≡ false
      → three_of op (all_view gs) p e ≡ as_of (spec_expr_of (form_view a)) (model_type_of (form_view b)) p
  behind-as other is = three-parts op gs a b p e three ha hb ∙ ap (λ l. either l (reads op (codes "with"))) other ∙ ap (either false) is

pub three-few : (op : Name) (gs : List TextForm) (p e : Position) → length gs < 3 → three_of op (all_view gs) p e ≡ no M.Expression e
three-few op (x ∷ y ∷ z ∷ gs) p e few = let k : suc (suc (suc (length gs))) < 3 = few in absurd (omega (arith, k))
three-few op _ p e few = refl

-- ---- a pair

pub few-parts : (gs : List TextForm) (p : Position) → length gs < 2 → pair_in (all_view gs) p ≡ no M.Case p
few-parts (h ∷ y ∷ gs) p few = let k : suc (suc (length gs)) < 2 = few in absurd (omega (arith, k))
few-parts _ p few = refl

pub many-parts : (gs : List TextForm) (p : Position) → 3 ≤ length gs → pair_in (all_view gs) p ≡ no M.Case p
many-parts [] p many = let k : 3 ≤ 0 = many in absurd (omega (arith, k))
many-parts (h ∷ []) p many = let k : 3 ≤ 1 = many in absurd (omega (arith, k))
many-parts (h ∷ y ∷ []) p many = let k : 3 ≤ 2 = many in absurd (omega (arith, k))
many-parts (h ∷ y ∷ z ∷ gs) p many = refl

parts-of_two : (gs : List TextForm) (l r : TextForm) (p : Position) → length gs ≡ 2 → l ≡ get_or gs 0 l → r ≡ get_or gs 1 r
    → pair_in (all_view gs) p ≡ (spec_expr_of (form_view l) >>= (λ x. spec_expr_of (form_view r) >>= (λ y. Ok (spec_pair x y p))))
parts-of_two [] l r p two hl hr = let k : 0 ≡ 2 = two in absurd (omega (arith, k))
parts-of_two (h ∷ []) l r p two hl hr = let k : 1 ≡ 2 = two in absurd (omega (arith, k))
parts-of_two (h ∷ y ∷ []) l r p two hl hr = grind (arith, common_steps)
parts-of_two (h ∷ y ∷ z ∷ gs) l r p two hl hr = let k : suc (suc (suc (length gs))) ≡ 2 = two in absurd (omega (arith, k))

module _ (fs : List TextForm) (l r : TextForm) (p : Position) where
  module _ (two : length fs ≡ 2) (hl : l ≡ get_or fs 0 l) (hr : r ≡ get_or fs 1 r) where
    by-parts : pair_in (all_view fs) p ≡ (spec_expr_of (form_view l) >>= (λ x. spec_expr_of (form_view r) >>= (λ y. Ok (spec_pair x y p))))
    by-parts = parts-of_two fs l r p two hl hr

    pub leftless : (f : ReadFault) → Fails f (spec_expr_of (form_view l)) → Fails f (pair_in (all_view fs) p)
    leftless f fails = grind (arith, common_steps, fails-too, by-parts)

    module _ (x : SpecExprTree) (left : spec_expr_of (form_view l) ≡ Ok x) where
      pub rightless : (f : ReadFault) → Fails f (spec_expr_of (form_view r)) → Fails f (pair_in (all_view fs) p)
      rightless f fails = grind (arith, common_steps, fails-too, by-parts)

      pub pair-is : (y : SpecExprTree) → spec_expr_of (form_view r) ≡ Ok y → pair_in (all_view fs) p ≡ Ok (spec_pair x y p)
      pair-is y right = grind (arith, common_steps, by-parts)

-- ---- expressions one after another

abbrev pub SpecsAreRead : Result SpecExprTrees Wrong → List TextForm → ℕ → List SpecExpr → Type 0
SpecsAreRead whole forms count read = AreRead spec_expr_and spec_expr_view spec_exprs_of whole forms count read

each-spec : AllIsEach spec_expr_and spec_expr_of spec_exprs_of
each-spec f fs = refl

before-specs : (xs : List SpecExpr) → before spec_expr_and spec_expr_view xs no_spec_expr ≡ spec_expr_views xs
before-specs [] = refl
before-specs (x ∷ xs) = ap (spec_expr_and (spec_expr_view x)) (before-specs xs)

behind-first : (forms : List TextForm) → arguments_of (all_view forms) ≡ spec_exprs_of (all_view (drop 1 forms))
behind-first forms = grind (arith, common_steps)

pub specs-begun : (forms : List TextForm) (read : List SpecExpr) → read ≡ [] → SpecsAreRead (spec_exprs_of (all_view forms)) forms 0 read
specs-begun forms read empty = begun spec_expr_and spec_expr_view spec_exprs_of (spec_exprs_of (all_view forms)) forms 0 read empty refl

pub arguments-begun : (forms : List TextForm) (read : List SpecExpr) → read ≡ [] → SpecsAreRead (arguments_of (all_view forms)) forms 1 read
arguments-begun forms read empty = begun spec_expr_and spec_expr_view spec_exprs_of (arguments_of (all_view forms)) forms 1 read empty (behind-first forms)

pub specs-put : (whole : Result SpecExprTrees Wrong) (forms : List TextForm) (n : ℕ) (old new : List SpecExpr) (f : TextForm) (x : SpecExpr) → n < length forms → f ≡ get_or forms n f
    → spec_expr_of (form_view f) ≡ Ok (spec_expr_view x) → new ≡ old ++ x ∷ [] → SpecsAreRead whole forms n old → SpecsAreRead whole forms (n + 1) new
specs-put = put spec_expr_and spec_expr_view spec_expr_of spec_exprs_of each-spec

pub specs-failed : (whole : Result SpecExprTrees Wrong) (forms : List TextForm) (n : ℕ) (read : List SpecExpr) (f : TextForm) (e : ReadFault) → n < length forms → f ≡ get_or forms n f
    → Fails e (spec_expr_of (form_view f)) → SpecsAreRead whole forms n read → Fails e whole
specs-failed = failed spec_expr_and spec_expr_view spec_expr_of spec_exprs_of each-spec

pub specs-done : (whole : Result SpecExprTrees Wrong) (forms : List TextForm) (n : ℕ) (read : List SpecExpr) → length forms ≤ n → SpecsAreRead whole forms n read → whole ≡ Ok (spec_expr_views read)
specs-done whole forms n read past so_far = done spec_expr_and spec_expr_view spec_exprs_of no_spec_expr whole forms n read refl past so_far ∙ ap Ok (before-specs read)

-- ---- pairs one after another

abbrev pub PairsAreRead : Result SpecExprTrees Wrong → List TextForm → ℕ → List SpecExpr → Type 0
PairsAreRead whole forms count read = AreRead spec_expr_and spec_expr_view pairs_of whole forms count read

each-pair : AllIsEach spec_expr_and pair_of pairs_of
each-pair f fs = refl

pub pairs-begun : (forms : List TextForm) (from : ℕ) (read : List SpecExpr) → read ≡ [] → PairsAreRead (pairs_of (all_view (drop from forms))) forms from read
pairs-begun forms from read empty = begun spec_expr_and spec_expr_view pairs_of (pairs_of (all_view (drop from forms))) forms from read empty refl

pub pairs-put : (whole : Result SpecExprTrees Wrong) (forms : List TextForm) (n : ℕ) (old new : List SpecExpr) (f : TextForm) (x : SpecExpr) → n < length forms → f ≡ get_or forms n f
    → pair_of (form_view f) ≡ Ok (spec_expr_view x) → new ≡ old ++ x ∷ [] → PairsAreRead whole forms n old → PairsAreRead whole forms (n + 1) new
pairs-put = put spec_expr_and spec_expr_view pair_of pairs_of each-pair

pub pairs-failed : (whole : Result SpecExprTrees Wrong) (forms : List TextForm) (n : ℕ) (read : List SpecExpr) (f : TextForm) (e : ReadFault) → n < length forms → f ≡ get_or forms n f
    → Fails e (pair_of (form_view f)) → PairsAreRead whole forms n read → Fails e whole
pairs-failed = failed spec_expr_and spec_expr_view pair_of pairs_of each-pair

pub pairs-done : (whole : Result SpecExprTrees Wrong) (forms : List TextForm) (n : ℕ) (read : List SpecExpr) → length forms ≤ n → PairsAreRead whole forms n read → whole ≡ Ok (spec_expr_views read)
pairs-done whole forms n read past so_far = done spec_expr_and spec_expr_view pairs_of no_spec_expr whole forms n read refl past so_far ∙ ap Ok (before-specs read)
