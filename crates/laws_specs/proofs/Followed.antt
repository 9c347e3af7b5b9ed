-- The impure calls that a right side makes, by their sites: each has values for its arguments, and those before it gave something.
use Rattle.std.proofs.Common.{◌≡◌, ◌⊎◌, ℕ, suc, ◌+◌, arith, slice_get, List, [], ◌∷◌, ◌++◌, length, Option, Some, None, refl, sym, ap, subst, ◌∙◌, inl, inr, append_assoc, append-nil}
use Rattle.std.proofs.lemmas.Grind.{common_steps}
use Rattle.std.proofs.lemmas.List.{length_push}
use Rattle.model.specs.rules.Values.{Value, Values}
use Rattle.model.specs.rules.Meaning.{Content, Meaning}
use Rattle.model.specs.rules.Outcome.{Call}
use Rattle.model.specs.rules.Picks.{Pick, site_content, site_values, HasContent}
use Rattle.model.specs.sites.Sites.{SiteTerm, constructor_call, some_part, SiteTerms}
use Rattle.model.proofs.Elements.{In, in_either}
use Rattle.model.proofs.Options.{is_there, then_some}
use Rattle.laws_trees.proofs.taking.FollowedCalls.{Followed, goes_on, stops, then_follow, follow_with, answered_call, follow_call, follow, result_after}
use Rattle.laws_trees.proofs.taking.CallsIn.{IsNext, InOrder}

abbrev pub calls_of : Followed → List Call
calls_of (goes_on calls) = calls
calls_of (stops calls) = calls

pub result_calls : (o : Option Content) (f : Followed) → (result_after o f).calls ≡ calls_of f
result_calls o f = grind (arith, common_steps)

-- the place of an answer among those that come in order
pub next_at : (made before us rest : List SiteTerm) (u : SiteTerm) → InOrder made before (us ++ u ∷ rest) → IsNext made (before ++ us) u
next_at made before [] rest u h = subst (λ l. IsNext made l u) (sym (append-nil before)) h.0
next_at made before (x ∷ us) rest u h = subst (λ l. IsNext made l u) (append_assoc before (x ∷ []) us) (next_at made (before ++ x ∷ []) us rest u h.1)

module _ (m : Meaning) (args : List Value) (k : Pick) where
  -- a call that is made for one of these answers
  pub record IsCallOf (us : List SiteTerm) (call : Call) : Type 0 where
    pub before : List SiteTerm
    pub answer : SiteTerm
    pub after : List SiteTerm
    pub sites : SiteTerms
    pub number : ℕ
    pub split : us ≡ before ++ answer ∷ after
    pub gave : (u : SiteTerm) → In before u → HasContent m args k u
    pub call_site : answered_call answer ≡ constructor_call call.term sites number
    pub values : site_values m args k sites ≡ Some call.args

  abbrev WasMade : List Call → List SiteTerm → Call → Type 0
  WasMade calls us call = In calls call ⊎ IsCallOf us call

  first_call : (u : SiteTerm) (us : List SiteTerm) (t n : ℕ) (ss : SiteTerms) (vs : Values) (call : Call) → answered_call u ≡ constructor_call t ss n → site_values m args k ss ≡ Some vs
      → record { term = t; args = vs } ≡ call → IsCallOf (u ∷ us) call
  first_call u us t n ss vs call e q same =
      subst (IsCallOf (u ∷ us)) same
      (record { before = []; answer = u; after = us; sites = ss; number = n; split = refl; gave = λ x i. absurd i; call_site = e; values = q })

  later_call : (u : SiteTerm) (us : List SiteTerm) (call : Call) → HasContent m args k u → IsCallOf us call → IsCallOf (u ∷ us) call
  later_call u us call h a = record {
    before = u ∷ a.before;
    answer = a.answer;
    after = a.after;
    sites = a.sites;
    number = a.number;
    split = ap (λ l. u ∷ l) a.split;
    gave = λ x i. elim i [ inl e ↦ subst (HasContent m args k) e h | inr j ↦ a.gave x j ];
    call_site = a.call_site;
    values = a.values;
  }

  with_call : (u : SiteTerm) (us : List SiteTerm) (calls : List Call) (call : Call) (t n : ℕ) (ss : SiteTerms) (o : Option Values) (c : Option Content)
      → answered_call u ≡ constructor_call t ss n → site_values m args k ss ≡ o → site_content m args k u ≡ c
      → ((made : List Call) → In (calls_of (follow m args k us made)) call → WasMade made us call)
      → In (calls_of (then_follow (follow_with t o c calls) (follow m args k us))) call → WasMade calls (u ∷ us) call
  with_call u us calls call t n ss o c e q g rest i = grind (arith, common_steps, later_call, in_either, first_call)

  pub calls_made : (made before us : List SiteTerm) (calls : List Call) (call : Call) → InOrder made before us → In (calls_of (follow m args k us calls)) call → WasMade calls us call
  calls_made made before [] calls call h i = inl i
  calls_made made before (u ∷ us) calls call h i =
      with_call u us calls call h.0.term (suc (length before)) h.0.args (site_values m args k h.0.args) (site_content m args k u) h.0.call refl refl
      (λ more j. calls_made made (before ++ u ∷ []) us more call h.1 j)
      (subst (λ s. In (calls_of (then_follow (follow_call m args k u s calls) (follow m args k us))) call) h.0.call i)

  -- following answers only adds calls
  added_with : (t : ℕ) (o : Option Values) (c : Option Content) (calls : List Call) → (more : List Call) × (calls_of (follow_with t o c calls) ≡ calls ++ more)
  added_with t None c calls = ([], sym (append-nil calls))
  added_with t (Some vs) None calls = (record { term = t; args = vs } ∷ [], refl)
  added_with t (Some vs) (Some c) calls = (record { term = t; args = vs } ∷ [], refl)

  added_by : (u s : SiteTerm) (calls : List Call) → (more : List Call) × (calls_of (follow_call m args k u s calls) ≡ calls ++ more)
  added_by u (constructor_call t ss i) calls = added_with t (site_values m args k ss) (site_content m args k u) calls
  added_by u _ calls = ([], sym (append-nil calls))

  added_then : (f : Followed) (go : List Call → Followed) → ((c : List Call) → (more : List Call) × (calls_of (go c) ≡ c ++ more)) → (more : List Call) × (calls_of (then_follow f go) ≡ calls_of f ++ more)
  added_then (goes_on c) go h = h c
  added_then (stops c) go h = ([], sym (append-nil c))

  added : (us : List SiteTerm) (calls : List Call) → (more : List Call) × (calls_of (follow m args k us calls) ≡ calls ++ more)
  added [] calls = ([], sym (append-nil calls))
  added (u ∷ us) calls =
      let a = added_by u (answered_call u) calls in
      let b = added_then (follow_call m args k u (answered_call u) calls) (follow m args k us) (λ c. added us c) in
      (a.0 ++ b.0, b.1 ∙ ap (λ l. l ++ b.0) a.1 ∙ append_assoc calls a.0 b.0)

  get_after : (calls more : List Call) (call : Call) → slice_get (calls ++ call ∷ more) (length calls) ≡ Some call
  get_after [] more call = refl
  get_after (c ∷ calls) more call = get_after calls more call

  answer_values : (u : SiteTerm) (t n : ℕ) (ss : SiteTerms) → answered_call u ≡ constructor_call t ss n → (u ≡ answered_call u) ⊎ (u ≡ some_part (answered_call u)) → HasContent m args k u → (vs : Values) × (site_values m args k ss ≡ Some vs)
  answer_values u t n ss e h i = grind (arith, common_steps, is_there, then_some)

  -- the call of an answer stands at its place, where those before it gave something
  here_made : (u : SiteTerm) (us : List SiteTerm) (t n : ℕ) (ss : SiteTerms) (vs : Values) (c : Option Content) (calls : List Call) → site_content m args k u ≡ c
      → slice_get (calls_of (then_follow (follow_with t (Some vs) c calls) (follow m args k us))) (length calls) ≡ Some (record { term = t; args = vs })
  here_made u us t n ss vs None calls e = get_after calls [] (record { term = t; args = vs })
  here_made u us t n ss vs (Some x) calls e =
      let call : Call = record { term = t; args = vs } in
      let a = added us (calls ++ call ∷ []) in
      ap (λ l. slice_get l (length calls)) (a.1 ∙ append_assoc calls (call ∷ []) a.0) ∙ get_after calls a.0 call

  goes_on_with : (u : SiteTerm) (t n : ℕ) (ss : SiteTerms) (vs : Values) (c : Content) (calls : List Call) → answered_call u ≡ constructor_call t ss n → site_values m args k ss ≡ Some vs → site_content m args k u ≡ Some c
      → follow_call m args k u (answered_call u) calls ≡ goes_on (calls ++ record { term = t; args = vs } ∷ [])
  goes_on_with u t n ss vs c calls e q g = ap (λ s. follow_call m args k u s calls) e ∙ ap (λ o. follow_with t o (site_content m args k u) calls) q ∙ ap (λ o. follow_with t (Some vs) o calls) g

  pub made_at : (made before us rest : List SiteTerm) (u : SiteTerm) (t n : ℕ) (ss : SiteTerms) (vs : Values) (calls : List Call) → InOrder made before (us ++ u ∷ rest) → ((y : SiteTerm) → In us y → HasContent m args k y)
      → answered_call u ≡ constructor_call t ss n → site_values m args k ss ≡ Some vs → slice_get (calls_of (follow m args k (us ++ u ∷ rest) calls)) (length calls + length us) ≡ Some (record { term = t; args = vs })
  made_at made before [] rest u t n ss vs calls h gave e q = grind (arith, common_steps, here_made u rest t n ss vs (site_content m args k u) calls refl, here_made)
  made_at made before (y ∷ us) rest u t n ss vs calls h gave e q =
      let w = answer_values y h.0.term (suc (length before)) h.0.args h.0.call h.0.answer (gave y (inl refl)) in
      let c = is_there (site_content m args k y) (gave y (inl refl)) in
      let call : Call = record { term = h.0.term; args = w.0 } in
      let more = length_push calls call in
      let place : length calls + suc (length us) ≡ length (calls ++ call ∷ []) + length us = omega (arith, more) in
      ap (λ f. slice_get (calls_of (then_follow f (follow m args k (us ++ u ∷ rest)))) (length calls + suc (length us))) (goes_on_with y h.0.term (suc (length before)) h.0.args w.0 c.0 calls h.0.call w.1 c.1)
      ∙ ap (slice_get (calls_of (follow m args k (us ++ u ∷ rest) (calls ++ call ∷ [])))) place
      ∙ made_at made (before ++ y ∷ []) us rest u t n ss vs (calls ++ call ∷ []) h.1 (λ z i. gave z (inr i)) e q
