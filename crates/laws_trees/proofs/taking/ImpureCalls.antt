-- An impure call of a rule that is taken, where all calls in its arguments are listed: it is made, and bound to its answer.
use Rattle.std.proofs.Common.{◌≡◌, ◌⊎◌, ℕ, zero, suc, ◌<◌, false, ◌||◌, List, [], ◌∷◌, ◌++◌, length, Option, Some, None, is_some, slice_get, Contains, refl, sym, ap, ◌∙◌, subst, inl, inr, arith}
use Rattle.std.proofs.lemmas.Bool.{cond-false, or_from, false_from_ne_true, false≢true}
use Rattle.std.proofs.lemmas.List.{length_push}
use Rattle.std.proofs.lemmas.Grind.{common_steps}
use Rattle.model.specs.rules.Values.{Values}
use Rattle.model.specs.rules.Meaning.{Content, impure_answer}
use Rattle.model.specs.rules.Outcome.{Call}
use Rattle.model.specs.rules.Picks.{call_answer, site_values}
use Rattle.model.specs.sites.Sites.{Site, constructor_site, each_term, unfold_site, sources_at}
use Rattle.model.specs.trees.Places.{is_in, waits, is_in_place, each_after, listed_below}
use Rattle.model.specs.trees.Run.{unwrap_failed, now_bound, constructed, bind_site}
use Rattle.model.proofs.Members.{member_found}
use Rattle.model.proofs.Options.{then_some}
use Rattle.laws_trees.proofs.runs.Below.{below_itself, all_below_source}
use Rattle.laws_trees.proofs.runs.Binding.{content_of}
use Rattle.laws_trees.proofs.runs.Contents.{sources_in, content_layer}
use Rattle.laws_trees.proofs.runs.Listing.{stays_here, last_here, unlisted}
use Rattle.laws_trees.proofs.runs.PureBindings.{values_read}
use Rattle.laws_trees.proofs.taking.TakingProgress.{GaveValues, Emitted, Here, StaysHere, Next, content, bound_so_far, BoundSites, fails_on, not_emitted, comes_after, put_bound}
use Rattle.laws_trees.proofs.taking.SettledSites.{values_there}
use Rattle.laws_trees.proofs.taking.SitesBelow.{ReturnSites, is_none, Below, AllListed, OneFailed, CallsReady, sites_go}
use Rattle.laws_trees.proofs.taking.Taking.{Taking}

pub one_more : {X : Type 0} (xs : List X) (x : X) → length (xs ++ x ∷ []) ≡ suc (length xs)
one_more xs x = let l = length_push xs x in omega (arith, l)

-- an impure call by its site: its term, the sites of its arguments, and how many calls come before it
pub record ImpureCall (sites : List Site) : Type 0 where
  pub site : ℕ
  pub term : ℕ
  pub args : List ℕ
  pub earlier : ℕ
  pub at : slice_get sites site ≡ Some (constructor_site term args (suc earlier))

module _ (taking : Taking) (uses : ReturnSites taking) where
  -- the values of sites, where each has one
  abbrev pub values_of : List ℕ → Option Values
  values_of ss = site_values taking.world.meaning taking.world.args taking.pick (each_term (unfold_site taking.world.sites) ss)

  -- the call is made and listed
  pub record CallMade (done more : List ℕ) (calls : List Call) (c : ImpureCall taking.world.sites) : Type 0 where
    pub values : Values
    pub answer : Content
    pub held : values_of c.args ≡ Some values
    pub there : content taking c.site ≡ Some answer
    pub listed : BoundSites taking more (calls ++ record { term = c.term; args = values } ∷ [])
    pub grows : StaysHere taking done more
    pub here : Here taking more c.site

  -- or an argument has no value
  abbrev pub CallGone : List ℕ → List ℕ → List Call → ImpureCall taking.world.sites → Type 0
  CallGone done more calls c = CallMade done more calls c ⊎ ((bound_so_far taking more ≡ unwrap_failed calls) × (values_of c.args ≡ None))

  pub call_fresh : (c : ImpureCall taking.world.sites) (done : List ℕ) (calls : List Call) → BoundSites taking done calls → length calls ≡ c.earlier → Here taking done c.site → ⊥
  call_fresh c done calls l q (inl m) = not_emitted taking c.site c.site (below_itself taking.world.sites c.site) (c.term, c.args, c.earlier, c.at) m
  call_fresh c done calls l q (inr d) = (let k = (l.counted c.site c.term c.args c.earlier d c.at).0 in omega (arith, k, q))

  pub not_listed : (done : List ℕ) (s : ℕ) → (Here taking done s → ⊥) → (is_in s taking.place.around.emitted || is_in s done) ≡ false
  not_listed done s n = grind (arith, common_steps, or_from, false_from_ne_true, member_found)

  pub call_goes : (n : ℕ) (c : ImpureCall taking.world.sites) → c.site < n → Below taking uses c.site → (done : List ℕ) (calls : List Call) → BoundSites taking done calls → length calls ≡ c.earlier
      → GaveValues taking c.earlier
      → CallsReady taking uses done c.args → CallGone done (listed_below n taking.world.sites taking.place.around.emitted done c.site) calls c
  call_goes zero c lt b done calls l q gave ready = absurd (omega (arith, lt))
  call_goes (suc n) c lt b done calls l q gave ready =
      let rest = each_after (listed_below n taking.world.sites taking.place.around.emitted) done (sources_at taking.world.sites c.site) in
      subst (λ x. CallGone done x calls c) (sym (cond-false (is_in c.site taking.place.around.emitted || is_in c.site done) done (rest ++ c.site ∷ []) out))
      (then_call rest (unlisted taking.world.sites taking.before taking.place.around.emitted n c.site done out) (sites_go taking uses done calls (sources_at taking.world.sites c.site) (subst (CallsReady taking uses done) (sym sources) ready) n
      (λ s i. let k = taking.before c.site s i in (omega (arith, lt, k), all_below_source taking.world.sites taking.before uses.sites c.site s b i)) l))
    where
      sources : sources_at taking.world.sites c.site ≡ c.args
      sources = ap sources_in c.at

      out : (is_in c.site taking.place.around.emitted || is_in c.site done) ≡ false
      out = not_listed done c.site (call_fresh c done calls l q)

      of_args : (x : ℕ) → Contains (sources_at taking.world.sites c.site) x → Contains c.args x
      of_args x i = subst (λ s. Contains s x) sources i

      values_gone : (x : ℕ) → Contains c.args x → content taking x ≡ None → values_of c.args ≡ None
      values_gone x i none = is_none (values_of c.args) (λ h. false≢true (sym (ap is_some none) ∙ values_there taking.world taking.pick c.args h x i))

      number_is : (t : ℕ) (ss : List ℕ) (m : ℕ) → slice_get taking.world.sites c.site ≡ Some (constructor_site t ss (suc m)) → c.earlier ≡ m
      number_is t ss m e = one_instance (sym c.at ∙ e)
        where
          one_instance : Some (constructor_site c.term c.args (suc c.earlier)) ≡ Some (constructor_site t ss (suc m)) → c.earlier ≡ m
          one_instance h = cc

      gave_own : (t : ℕ) (ss : List ℕ) (m : ℕ) → slice_get taking.world.sites c.site ≡ Some (constructor_site t ss (suc m)) → GaveValues taking m
      gave_own t ss m e = subst (GaveValues taking) (number_is t ss m e) gave

      own : (calls' : List Call) → length calls' ≡ suc (length calls) → (t : ℕ) (ss : List ℕ) (m : ℕ) → slice_get taking.world.sites c.site ≡ Some (constructor_site t ss (suc m)) → (m < length calls') × GaveValues taking m
      own calls' len t ss m e = (let same = number_is t ss m e in (omega (arith, same, len, q), gave_own t ss m e))

      then_call : (rest : List ℕ) → (is_in c.site taking.place.around.emitted || is_in c.site rest) ≡ false
          → AllListed taking uses done rest calls (sources_at taking.world.sites c.site) ⊎ OneFailed taking uses rest calls (sources_at taking.world.sites c.site) → CallGone done (rest ++ c.site ∷ []) calls c
      then_call rest new (inr f) = inr (fails_on taking rest (rest ++ c.site ∷ []) calls (c.site ∷ [], refl) f.bound, values_gone f.site (of_args f.site f.among) f.none)
      then_call rest new (inl g) =
          let next : Next taking rest = record { site = c.site; unlisted = new; sources = g.now } in
          let x = content_of (content taking c.site)
          (uses.found c.site b (comes_after taking rest calls g.listed c.site g.now gave_own) (ap waits c.at) (λ a j. ap is_some (g.listed.reads a (g.now a j)).1)) in
          let v = then_some (values_of c.args) (call_answer taking.world.meaning c.term (suc c.earlier)) x.0 (sym (content_layer taking.world taking.pick taking.before c.site (constructor_site c.term c.args (suc c.earlier)) c.at) ∙ x.1) in
          let calls' = calls ++ record { term = c.term; args = v.0 } ∷ [] in
          let len : length calls' ≡ suc (length calls) = one_more calls (record { term = c.term; args = v.0 }) in
          inl record {
            values = v.0;
            answer = x.0;
            held = v.1;
            there = x.1;
            listed = put_bound taking rest calls g.listed next x.0 x.1 calls' (omega (arith, len)) (own calls' len) (ap is_in_place c.at)
                (ap (bind_site taking.world g.listed.env calls c.site) c.at
                ∙ ap (constructed taking.world g.listed.env calls c.site c.term (suc c.earlier))
                (values_read taking.world taking.pick taking.before g.listed.env c.args (λ s j. let y = g.listed.reads s (g.now s (subst (λ l. Contains l s) (sym sources) j)) in y.2 ∙ sym y.1) ∙ v.1)
                ∙ ap (λ j. now_bound g.listed.env calls' c.site (impure_answer taking.world.meaning c.term j)) q
                ∙ ap (now_bound g.listed.env calls' c.site) v.2);
            grows = λ u j. stays_here (Emitted taking) rest c.site u (g.grows u j);
            here = last_here (Emitted taking) rest c.site c.site refl;
          }
