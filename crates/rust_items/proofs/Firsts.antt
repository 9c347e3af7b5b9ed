-- The first function of each name, and a table that has it.
use Rattle.std.proofs.Common.{◌≡◌, ◌≢◌, ◌∙◌, ◌++◌, ◌∷◌, [], ℕ, zero, suc, Bool, true, false, not, cond, ◌||◌, List, length, Option, Some, None, map, slice_get, refl, sym, ap, subst, ⊎_elim, inl, inr}
use Rattle.std.specs.Prelude.{filter, string_bytes}
use Rattle.std.specs.List.{flat_map, list_any}
use Rattle.std.specs.Str.{bytes_eq}
use Rattle.std.proofs.lemmas.Grind.{flat_map-append}
use Rattle.std.proofs.lemmas.List.{append-nil, map-append}
use Rattle.std.proofs.lemmas.List.Elements.{filter-append}
use Rattle.model.proofs.Bytes.{same_bytes, same_self, differ}
use Rattle.model.proofs.Elements.{or_left, or_right}
use Rattle.model.proofs.Positions.{get_front, get_middle, get_push_cases}
use Rattle.core_syntax.specs.SyntaxViews.{position}
use Rattle.rust_items.specs.declared.context.Added.{Added}
use Rattle.rust_items.specs.ItemViews.{added_view, added_views}
use Rattle.rust_items.specs.WrittenItems.{ContextFunction, AreAlike, IsFirstUnlike, first_held, firsts, function_lines, is_other, kept_or_new, new_lines}

-- a function more
pub pushed_function : (old new : List Added) (x : Added) (name text : List ℕ) → new ≡ old ++ x ∷ [] → string_bytes x.name ≡ name → string_bytes x.text ≡ text
    → added_views new ≡ added_views old ++ record { name = name; text = text; at = position x.pos } ∷ []
pushed_function old new x name text e n t =
    let with_name : List ℕ → ContextFunction = λ y. record { name = y; text = string_bytes x.text; at = position x.pos } in
    let with_text : List ℕ → ContextFunction = λ y. record { name = name; text = y; at = position x.pos } in
    ap added_views e ∙ map-append added_view old (x ∷ []) ∙ ap (λ y. added_views old ++ with_name y ∷ []) n ∙ ap (λ y. added_views old ++ with_text y ∷ []) t

abbrev named : List ContextFunction → List ℕ → Bool
named fs q = list_any (λ (f : ContextFunction). bytes_eq f.name q) fs

abbrev one_unless : Bool → ContextFunction → List ContextFunction
one_unless true f = []
one_unless false f = f ∷ []

one_or_other : (d f : ContextFunction) (a b : Bool) → bytes_eq d.name f.name ≡ a → filter (is_other d) (one_unless b f) ≡ one_unless (a || b) f
one_or_other d f true true e = refl
one_or_other d f false true e = refl
one_or_other d f true false e = ap (λ x. cond (not x) (f ∷ []) []) e
one_or_other d f false false e = ap (λ x. cond (not x) (f ∷ []) []) e

firsts_more : (fs : List ContextFunction) (f : ContextFunction) → firsts (fs ++ f ∷ []) ≡ firsts fs ++ one_unless (named fs f.name) f
firsts_more [] f = refl
firsts_more (d ∷ fs) f =
    ap (λ xs. d ∷ filter (is_other d) xs) (firsts_more fs f)
    ∙ ap (λ xs. d ∷ xs) (filter-append (is_other d) (firsts fs) (one_unless (named fs f.name) f) ∙ ap (λ xs. filter (is_other d) (firsts fs) ++ xs) (one_or_other d f (bytes_eq d.name f.name) (named fs f.name) refl))

false_or : (a b : Bool) → a ≡ false → b ≡ false → (a || b) ≡ false
false_or true b e h = absurd (cc)
false_or false b e h = h

named_there : (fs : List ContextFunction) (k : ℕ) (f : ContextFunction) → slice_get fs k ≡ Some f → named fs f.name ≡ true
named_there [] k f e = absurd (cc)
named_there (d ∷ fs) zero f e = let s : d ≡ f = cc in or_left _ _ (ap (λ x. bytes_eq x.name f.name) s ∙ same_self f.name)
named_there (d ∷ fs) (suc k) f e = or_right _ _ (named_there fs k f e)

not_true : (b : Bool) → (b ≡ true → ⊥) → b ≡ false
not_true true h = absurd (h refl)
not_true false h = refl

named_nowhere : (fs : List ContextFunction) (q : List ℕ) → ((k : ℕ) (f : ContextFunction) → slice_get fs k ≡ Some f → f.name ≡ q → ⊥) → named fs q ≡ false
named_nowhere [] q h = refl
named_nowhere (d ∷ fs) q h = false_or _ _ (not_true _ (λ e. h zero d refl (same_bytes d.name q e))) (named_nowhere fs q (λ k. h (suc k)))

-- the look-up gives the first function that has a name
pub record AreHeld (done : List ContextFunction) (look : List ℕ → Option ContextFunction) : Type 0 where
  pub found : (k : ℕ) (f : ContextFunction) → slice_get done k ≡ Some f → (g : ContextFunction) × (look f.name ≡ Some g) × (g.text ≡ f.text)
  pub from : (q : List ℕ) (g : ContextFunction) → look q ≡ Some g → (g.name ≡ q) × ((k : ℕ) × (slice_get done k ≡ Some g))

pub none_held : (look : List ℕ → Option ContextFunction) → ((q : List ℕ) → look q ≡ None) → AreHeld [] look
none_held look none = record { found = λ k f e. absurd (cc); from = λ q g e. let n = none q in absurd (cc) }

pub alike_held : (done : List ContextFunction) (look : List ℕ → Option ContextFunction) → AreHeld done look → AreAlike done
alike_held done look h = record {
  alike = λ i j f g p q e.
      let a = h.found i f p in
      let b = h.found j g q in
      let same : Some a.0 ≡ Some b.0 = sym a.1 ∙ ap look e ∙ b.1 in
      let one : a.0 ≡ b.0 = cc in
      sym a.2 ∙ ap (λ (x : ContextFunction). x.text) one ∙ b.2;
}

pub first_unlike : (fs done after : List ContextFunction) (look : List ℕ → Option ContextFunction) (f g : ContextFunction) → fs ≡ done ++ f ∷ after → AreHeld done look → look f.name ≡ Some g → g.text ≢ f.text
    → IsFirstUnlike fs g f
first_unlike fs done after look f g parts h at other =
    let b = h.from f.name g at in
    record { before = done; after = after; parts = parts; alike = alike_held done look h; place = b.1.0; is_before = b.1.1; names = b.0; texts = other }

module _ (done : List ContextFunction) (look new : List ℕ → Option ContextFunction) (f : ContextFunction) (h : AreHeld done look) (is : (q : List ℕ) → new q ≡ first_held look f q) where
  -- where there is one of the name already
  kept : (g : ContextFunction) → look f.name ≡ Some g → (q : List ℕ) → new q ≡ look q
  kept g at q = is q ∙ ap (λ o. kept_or_new o f q (look q)) at

  held_again : (g : ContextFunction) → look f.name ≡ Some g → g.text ≡ f.text → AreHeld (done ++ f ∷ []) new
  held_again g at same = record {
    found = λ k a e. ⊎_elim
        (λ before. let b = h.found k a before in (b.0, kept g at a.name ∙ b.1, b.2))
        (λ last. (g, kept g at a.name ∙ ap (λ (x : ContextFunction). look x.name) (sym last.1) ∙ at, same ∙ ap (λ (x : ContextFunction). x.text) last.1))
        (get_push_cases done f a k e);
    from = λ q a e. let b = h.from q a (sym (kept g at q) ∙ e) in (b.0, (b.1.0, get_front done (f ∷ []) b.1.0 a b.1.1));
  }

  -- where there is none
  fresh : look f.name ≡ None → (q : List ℕ) → new q ≡ cond (bytes_eq f.name q) (Some f) (look q)
  fresh at q = is q ∙ ap (λ o. kept_or_new o f q (look q)) at

  fresh_there : look f.name ≡ None → (q : List ℕ) → bytes_eq f.name q ≡ true → new q ≡ Some f
  fresh_there at q e = fresh at q ∙ ap (λ b. cond b (Some f) (look q)) e

  fresh_other : look f.name ≡ None → (q : List ℕ) → bytes_eq f.name q ≡ false → new q ≡ look q
  fresh_other at q e = fresh at q ∙ ap (λ b. cond b (Some f) (look q)) e

  found_before : look f.name ≡ None → (a g : ContextFunction) → look a.name ≡ Some g → new a.name ≡ Some g
  found_before at a g e =
      elim (bytes_eq f.name a.name) as (λ b. bytes_eq f.name a.name ≡ b → new a.name ≡ Some g) [
        | true ↦ λ t. let same : look f.name ≡ look a.name = ap look (same_bytes f.name a.name t) in let clash : None ≡ Some g = sym at ∙ same ∙ e in absurd (cc)
        | false ↦ λ t. fresh_other at a.name t ∙ e
      ] refl

  from_fresh : look f.name ≡ None → (q : List ℕ) (a : ContextFunction) → new q ≡ Some a → (a.name ≡ q) × ((k : ℕ) × (slice_get (done ++ f ∷ []) k ≡ Some a))
  from_fresh at q a e =
      elim (bytes_eq f.name q) as (λ b. bytes_eq f.name q ≡ b → (a.name ≡ q) × ((k : ℕ) × (slice_get (done ++ f ∷ []) k ≡ Some a))) [
        | true ↦ λ t.
            let some : Some f ≡ Some a = sym (fresh_there at q t) ∙ e in
            let one : f ≡ a = cc in
            (ap (λ (x : ContextFunction). x.name) (sym one) ∙ same_bytes f.name q t, (length done, get_middle done f [] ∙ ap Some one))
        | false ↦ λ t. let b = h.from q a (sym (fresh_other at q t) ∙ e) in (b.0, (b.1.0, get_front done (f ∷ []) b.1.0 a b.1.1))
      ] refl

  held_anew : look f.name ≡ None → AreHeld (done ++ f ∷ []) new
  held_anew at = record {
    found = λ k a e. ⊎_elim
        (λ before. let b = h.found k a before in (b.0, found_before at a b.0 b.1, b.2))
        (λ last. (f, fresh_there at a.name (ap (λ (x : ContextFunction). bytes_eq f.name x.name) (sym last.1) ∙ same_self f.name), ap (λ (x : ContextFunction). x.text) last.1))
        (get_push_cases done f a k e);
    from = from_fresh at;
  }

  held_by : (o : Option ContextFunction) → look f.name ≡ o → ((g : ContextFunction) → look f.name ≡ Some g → g.text ≡ f.text) → AreHeld (done ++ f ∷ []) new
  held_by None at same = held_anew at
  held_by (Some g) at same = held_again g at (same g at)

  pub held_more : ((g : ContextFunction) → look f.name ≡ Some g → g.text ≡ f.text) → AreHeld (done ++ f ∷ []) new
  held_more same = held_by (look f.name) refl same

-- the lines so far, with those of one function more
module _ (done : List ContextFunction) (look : List ℕ → Option ContextFunction) (f : ContextFunction) (h : AreHeld done look) where
  lines_by : (o : Option ContextFunction) → look f.name ≡ o → function_lines (one_unless (named done f.name) f) ≡ new_lines o f
  lines_by None at =
      ap (λ b. function_lines (one_unless b f)) (named_nowhere done f.name (λ k a e same.
      let b = h.found k a e in
      let clash : Some b.0 ≡ None = sym b.1 ∙ ap look same ∙ at in absurd (cc)))
      ∙ append-nil f.text
  lines_by (Some g) at =
      let b = h.from f.name g at in
      ap (λ x. function_lines (one_unless x f)) (ap (named done) (sym b.0) ∙ named_there done b.1.0 g b.1.1)

  pub lines_more : function_lines (firsts (done ++ f ∷ [])) ≡ function_lines (firsts done) ++ new_lines (look f.name) f
  lines_more =
      ap function_lines (firsts_more done f) ∙ flat_map-append (λ (x : ContextFunction). x.text) (firsts done) (one_unless (named done f.name) f)
      ∙ ap (λ x. function_lines (firsts done) ++ x) (lines_by (look f.name) refl)
