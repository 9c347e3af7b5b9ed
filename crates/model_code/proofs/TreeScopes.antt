-- The code of a tree that binds sites before it uses them reads what is in scope, by induction on the marked tree.
use Rattle.std.proofs.Common.{◌≡◌, inl, inr, ℕ, suc, ◌<◌, ◌&&◌, ◌||◌, Bool, true, false, not, if◌then◌else◌, List, [], ◌∷◌, ◌++◌, length, Option, Some, None, slice_get, Contains, refl, ap, subst, ◌∙◌, arith}
use Rattle.std.proofs.lemmas.Grind.{common_steps}
use Rattle.std.specs.List.{list_all}
use Rattle.std.proofs.lemmas.Bool.{and_parts, and_from}
use Rattle.std.proofs.lemmas.Option.{none-some}
use Rattle.std.proofs.lemmas.List.Elements.{Contains-append_left, Contains-append_right, Contains-append_cases}
use Rattle.model.specs.sites.Sites.{Site, SetRule, SiteSet, sources_of, sources_at}
use Rattle.model.specs.trees.Trees.{Marked, m_no_step, m_step, MarkedCheck, m_match, m_equal, m_loop, m_return, MarkedArms, m_no_arm, m_arm, plain, plain_check, plain_arms, return_of, marks, marks_check, marks_arms}
use Rattle.model.specs.trees.Places.{is_in, is_in_place, return_uses, uses, field_sites}
use Rattle.model.specs.trees.Sound.{is_return}
use Rattle.model.specs.claims.Layers.{gone_over, can_be_used, brings_new, binds_once, binds_before_use, binds_in_check, binds_in_arms}
use Rattle.model.proofs.Elements.{or_split}
use Rattle.model.proofs.Members.{nothing_in, in_head, in_tail, in_cases, each_passes, member_found, member_is_in, get_within}
use Rattle.model_code.specs.Code.{Block, statement, Statement}
use Rattle.model_code.specs.TreeCode.{Passes, place_of, arguments_from, fields_of, bind_code, binds_code, loop_code, tree_code, check_code, arms_code}
use Rattle.model_code.specs.CodeLaws.{not_in_place, none_in_place, no_field_in_place, binds_none_in_place, check_binds_none, arms_bind_none}
use Rattle.model_code.specs.Scopes.{knows, knows_all, unless_ended, block_scoped, statement_scoped, arms_scoped, LoopsAreOverBound, PrintedCodeIsScoped}
use Rattle.model_code.proofs.CodeRunning.{outside}
use Rattle.model_code.proofs.FlatScopes.{flat_keeps_scopes_lem}
use Rattle.model_code.proofs.NothingInPlace.{best_trees_bind_none_in_place_lem}
use Rattle.model_code.proofs.PrintedCode.{tree_unlabelled}

abbrev made_of : Option Site → List ℕ
made_of o = elim o as (λ _. List ℕ) [ None ↦ [] | Some b ↦ sources_of b ]

pub ended_or : (s : Statement) (later : Bool) → later ≡ true → unless_ended s later ≡ true
ended_or s later h = grind (arith, common_steps)

later_there : (check : MarkedCheck) (x : Bool) → (if is_return check && not true then true else x) ≡ true → x ≡ true
later_there check x h = grind (arith, common_steps)

module _ (sites : List Site) (p : Passes) where
  -- what a tree has bound, the code has too; none of it is written in place
  pub record Kept (ts cs : List ℕ) : Type 0 where
    pub there : (x : ℕ) → Contains ts x → Contains cs x
    pub outside : (x : ℕ) → Contains ts x → is_in_place (slice_get sites x) ≡ true → ⊥

  kept_more : (ts cs : List ℕ) (s : ℕ) → Kept ts cs → not_in_place sites s ≡ true → Kept (s ∷ ts) (s ∷ cs)
  kept_more ts cs s k n = grind (arith, common_steps, in_cases, in_head, in_tail, outside)

  -- 1. what is used is known
  module _ (ts cs : List ℕ) (k : Kept ts cs) where
    carried : (s : ℕ) → is_in s ts ≡ true → is_in s cs ≡ true
    carried s h = member_is_in s cs (k.there s (member_found s ts h))

    known : (s : ℕ) → can_be_used sites ts s ≡ true → knows cs (place_of (slice_get sites s) s) ≡ true
    known s h = grind (arith, carried, or_split, member_found, each_passes, in_head)

    abbrev AllUsable : List ℕ → Type 0
    AllUsable ss = (x : ℕ) → Contains ss x → can_be_used sites ts x ≡ true

    arguments_known : (term i : ℕ) (ss : List ℕ) → AllUsable ss → knows_all cs (arguments_from sites p term i ss) ≡ true
    arguments_known term i [] h = refl
    arguments_known term i (s ∷ ss) h = and_from _ _ (known s (h s (in_head s ss))) (arguments_known term (suc i) ss (λ x c. h x (in_tail s x ss c)))

    fields_known : (ss : List ℕ) → AllUsable ss → knows_all cs (fields_of sites p ss) ≡ true
    fields_known [] h = refl
    fields_known (s ∷ ss) h = and_from _ _ (known s (h s (in_head s ss))) (fields_known ss (λ x c. h x (in_tail s x ss c)))

    -- 2. a site is bound
    bind_scoped : (s : ℕ) (o : Option Site) (rest : Block) → is_in_place o ≡ false → AllUsable (made_of o) → block_scoped false (s ∷ cs) rest ≡ true
        → block_scoped false cs (statement (bind_code sites p s o) rest) ≡ true
    bind_scoped s o rest n u h = grind (arith, common_steps, known, in_head, arguments_known, fields_known)

  -- sites are bound in order, and what follows
  moved_back : (s : ℕ) (ss ts : List ℕ) (x : ℕ) → Contains (s ∷ (ss ++ ts)) x → Contains (ss ++ s ∷ ts) x
  moved_back s ss ts x c =
      elim (in_cases s x (ss ++ ts) c) [
        | inl e ↦ Contains-append_right ss (s ∷ ts) x (subst (Contains (s ∷ ts)) e (in_head s ts))
        | inr d ↦ elim (Contains-append_cases ss ts x d) [ inl f ↦ Contains-append_left ss (s ∷ ts) x f | inr f ↦ Contains-append_right ss (s ∷ ts) x (in_tail s x ts f) ]
      ]

  binds_scoped : (again ss ts cs : List ℕ) (rest : Block) → binds_once sites again ts ss ≡ true → none_in_place sites ss ≡ true → Kept ts cs
      → ((cs' : List ℕ) → Kept (ss ++ ts) cs' → block_scoped false cs' rest ≡ true) → block_scoped false cs (binds_code sites p ss rest) ≡ true
  binds_scoped again [] ts cs rest h n k next = next cs k
  binds_scoped again (s ∷ ss) ts cs rest h n k next =
      let hs = and_parts ((not (is_in s ts) || is_in s again) && list_all (can_be_used sites ts) (sources_at sites s)) (binds_once sites again (s ∷ ts) ss) h in
      let us = and_parts (not (is_in s ts) || is_in s again) (list_all (can_be_used sites ts) (sources_at sites s)) hs.0 in
      let ns = and_parts (not_in_place sites s) (none_in_place sites ss) n in
      bind_scoped ts cs k s (slice_get sites s) (binds_code sites p ss rest) (outside (is_in_place (slice_get sites s)) ns.0) (each_passes (can_be_used sites ts) (sources_at sites s) us.1)
      (binds_scoped again ss (s ∷ ts) (s ∷ cs) rest hs.1 ns.1 (kept_more ts cs s k ns.0)
      (λ cs' k'. next cs' (record { there = λ x c. k'.there x (moved_back s ss ts x c); outside = λ x c i. k'.outside x (moved_back s ss ts x c) i })))

  kept_fields : (fields : List (Option ℕ)) (ts cs : List ℕ) → no_field_in_place sites fields ≡ true → Kept ts cs → Kept (field_sites fields ++ ts) (field_sites fields ++ cs)
  kept_fields [] ts cs n k = k
  kept_fields (None ∷ rest) ts cs n k = kept_fields rest ts cs n k
  kept_fields (Some s ∷ rest) ts cs n k = grind (arith, common_steps, kept_fields rest ts cs, and_parts, kept_more)

  -- 3. a loop, and a return
  loop_scoped : (over : LoopsAreOverBound sites) (result : ℕ) (o : Option Site) (body : Block) (ts cs : List ℕ) → slice_get sites result ≡ o → Kept ts cs
      → ((x : ℕ) → Contains (made_of o) x → can_be_used sites ts x ≡ true) → block_scoped false (result ∷ cs) body ≡ true → statement_scoped false cs (loop_code o result body) ≡ true
  loop_scoped over result o body ts cs at k u h = grind (arith, common_steps, and_from, carried, in_head)

  return_scoped : (o : Option SetRule) (r : SetRule) (ts cs : List ℕ) → o ≡ Some r → Kept ts cs → ((x : ℕ) → Contains (return_uses o) x → can_be_used sites ts x ≡ true)
      → statement_scoped false cs (check_code (return_of o) sites p) ≡ true
  return_scoped None r ts cs e k u = absurd (none-some r e)
  return_scoped (Some q) r ts cs e k u = known ts cs k q.result (u q.result (Contains-append_right q.impure (q.result ∷ []) q.result (in_head q.result [])))

-- 4. by induction on the marked tree
module _ (set : SiteSet) (p : Passes) (over : LoopsAreOverBound set.sites) where
  abbrev AreOfRules : List ℕ → Type 0
  AreOfRules ms = (i : ℕ) → Contains ms i → i < length set.rules

  mutual
    steps_scoped : (m : Marked) (again ts cs : List ℕ) → binds_before_use set true again ts m ≡ true → binds_none_in_place (plain set.rules m) set.sites ≡ true → AreOfRules (marks m) → Kept set.sites p ts cs
        → block_scoped false cs (tree_code (plain set.rules m) set.sites p) ≡ true
    steps_scoped m_no_step again ts cs h n ks k = refl
    steps_scoped (m_step binds check rest) again ts cs h n ks k =
        let inner = binds ++ ts in
        let hs = and_parts _ (if is_return check && not true then true else binds_before_use set true (gone_over set check ++ again) inner rest) h in
        let cs1 = and_parts (binds_once set.sites again ts binds && list_all (can_be_used set.sites inner) (uses set check)) (binds_in_check set true again inner check) hs.0 in
        let bs = and_parts (binds_once set.sites again ts binds) (list_all (can_be_used set.sites inner) (uses set check)) cs1.0 in
        let ns = and_parts (none_in_place set.sites binds) (check_binds_none (plain_check set.rules check) set.sites && binds_none_in_place (plain set.rules rest) set.sites) n in
        let ms = and_parts (check_binds_none (plain_check set.rules check) set.sites) (binds_none_in_place (plain set.rules rest) set.sites) ns.1 in
        binds_scoped set.sites p again binds ts cs _ bs.0 ns.0 k
        (λ cs' k'. and_from (statement_scoped false cs' (check_code (plain_check set.rules check) set.sites p)) _
        (check_scoped check again inner cs' (each_passes (can_be_used set.sites inner) (uses set check) bs.1) cs1.1 ms.0 (λ i c. ks i (Contains-append_left (marks_check check) (marks rest) i c)) k')
        (ended_or (check_code (plain_check set.rules check) set.sites p) _
        (ap (λ sc. block_scoped false sc (tree_code (plain set.rules rest) set.sites p)) (grind arith)
        ∙ steps_scoped rest (gone_over set check ++ again) inner cs' (later_there check _ hs.1) ms.1 (λ i c. ks i (Contains-append_right (marks_check check) (marks rest) i c)) k')))

    check_scoped : (check : MarkedCheck) (again ts cs : List ℕ) → ((x : ℕ) → Contains (uses set check) x → can_be_used set.sites ts x ≡ true)
        → binds_in_check set true again ts check ≡ true → check_binds_none (plain_check set.rules check) set.sites ≡ true → AreOfRules (marks_check check) → Kept set.sites p ts cs
        → statement_scoped false cs (check_code (plain_check set.rules check) set.sites p) ≡ true
    check_scoped (m_match source arms) again ts cs u h n ms k = and_from _ _ (known set.sites p ts cs k source (u source (in_head source []))) (arms_are_scoped arms again ts cs h n ms k)
    check_scoped (m_equal a b body) again ts cs u h n ms k =
        and_from _ _ (and_from _ _ (known set.sites p ts cs k a (u a (in_head a (b ∷ [])))) (known set.sites p ts cs k b (u b (in_tail a b (b ∷ []) (in_head b []))))) (steps_scoped body again ts cs h n ms k)
    check_scoped (m_loop result body) again ts cs u h n ms k =
        let hs = and_parts (brings_new ts (result ∷ [])) (binds_before_use set true (sources_at set.sites result ++ again) (result ∷ ts) body) h in
        let ns = and_parts (not_in_place set.sites result) (binds_none_in_place (plain set.rules body) set.sites) n in
        loop_scoped set.sites p over result (slice_get set.sites result) (tree_code (plain set.rules body) set.sites p) ts cs refl k u
        (steps_scoped body (sources_at set.sites result ++ again) (result ∷ ts) (result ∷ cs) hs.1 ns.1 ms (kept_more set.sites p ts cs result k ns.0))
    check_scoped (m_return rule) again ts cs u h n ms k =
        let r = get_within set.rules rule (ms rule (in_head rule [])) in
        return_scoped set.sites p (slice_get set.rules rule) r.0 ts cs r.1 k u

    arms_are_scoped : (arms : MarkedArms) (again ts cs : List ℕ) → binds_in_arms set true again ts arms ≡ true → arms_bind_none (plain_arms set.rules arms) set.sites ≡ true → AreOfRules (marks_arms arms) → Kept set.sites p ts cs
        → arms_scoped false cs (arms_code (plain_arms set.rules arms) set.sites p) ≡ true
    arms_are_scoped m_no_arm again ts cs h n ms k = refl
    arms_are_scoped (m_arm constraint fields body rest) again ts cs h n ms k =
        let hs = and_parts (brings_new ts (field_sites fields) && binds_before_use set true again (field_sites fields ++ ts) body) (binds_in_arms set true again ts rest) h in
        let bs = and_parts (brings_new ts (field_sites fields)) (binds_before_use set true again (field_sites fields ++ ts) body) hs.0 in
        let ns = and_parts (no_field_in_place set.sites fields) (binds_none_in_place (plain set.rules body) set.sites && arms_bind_none (plain_arms set.rules rest) set.sites) n in
        let os = and_parts (binds_none_in_place (plain set.rules body) set.sites) (arms_bind_none (plain_arms set.rules rest) set.sites) ns.1 in
        and_from _ _
        (steps_scoped body again (field_sites fields ++ ts) (field_sites fields ++ cs) bs.1 os.0 (λ i c. ms i (Contains-append_left (marks body) (marks_arms rest) i c)) (kept_fields set.sites p fields ts cs ns.0 k))
        (arms_are_scoped rest again ts cs hs.1 os.1 (λ i c. ms i (Contains-append_right (marks body) (marks_arms rest) i c)) k)

pub printed_code_is_scoped_lem : PrintedCodeIsScoped
printed_code_is_scoped_lem set tree p deep n best binds over =
    flat_keeps_scopes_lem (tree_code tree set.sites p) deep n [] (tree_unlabelled set.sites p tree)
    (grind (arith, common_steps, steps_scoped, best_trees_bind_none_in_place_lem, outside, nothing_in))
