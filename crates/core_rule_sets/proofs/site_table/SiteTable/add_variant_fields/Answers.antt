use Rattle.std.proofs.Common.{◌≡◌, ◌<◌, length, map, subst, arith}
use Rattle.model.specs.sites.Sites.{match_variant_site, layer, unfold_site}
use Rattle.model.specs.sites.SetRules.{each_place}
use Rattle.model.proofs.Members.{in_alone}
use Rattle.core_rule_sets.specs.SiteTables.{table_sites, ForWantOfRoom, HasSources, IsTable, LacksRoom, MayAdd, StandForEach}
use Rattle.core_rule_sets.proofs.FullTables.{field_lacks, passed_on}
use Rattle.core_rule_sets.proofs.SitesAdded.{field_added}
use Rattle.core_rule_sets.proofs.site_table.SiteTable.add_variant_fields.Goals as goal

pub loop-place-preserved : goal.loop-place-preserved
loop-place-preserved c =
    let site = match_variant_site c.args.source c.args.variant.0 in
    let before = table_sites c.args.self.now in
    let below : HasSources before (site c.loop-place.place) = λ x m. subst (λ k. k < length before) (in_alone c.args.source x m) c.requires.source in
    let may : MayAdd c.loop-place.self (site c.loop-place.place) = record { table = c.loop-place.invariant.table; sources = λ x m. let l = below x m in omega arith } in
    let one = c.in_ok-number.ensures.added may in
    let more = field_added site before (table_sites c.loop-place.self) (table_sites c.add.new.self) c.loop-place.place c.loop-place.numbers.items c.push.new.self.items
    c.in_ok-number.number c.loop-place.invariant.added c.loop-place.invariant.table.sources below c.loop-place.invariant.longer one.0 c.in_ok-push.ensures.items in
    record { table = one.1; longer = more.0; added = more.1 }

pub returns-clause-sites : goal.returns-clause-sites
returns-clause-sites c terms once stand =
    let all : c.loop-place.place ≡ c.args.fields = omega arith in
    subst (λ k. StandForEach (table_sites c.args.self.now) (table_sites c.loop-place.self) terms (each_place (match_variant_site c.args.source c.args.variant.0) 0 k) c.loop-place.numbers.items) all
    (c.loop-place.invariant.added terms once stand)

pub returns-in_err-number-clause-kept : goal.returns-in_err-number-clause-kept
returns-in_err-number-clause-kept c =
    let site = match_variant_site c.args.source c.args.variant.0 in
    let before = table_sites c.args.self.now in
    let below : HasSources before (site c.loop-place.place) = λ x m. subst (λ k. k < length before) (in_alone c.args.source x m) c.requires.source in
    let may : MayAdd c.loop-place.self (site c.loop-place.place) = record { table = c.loop-place.invariant.table; sources = λ x m. let l = below x m in omega arith } in
    passed_on c.from_residual.result c.in_err-number.field-0.0 (ForWantOfRoom (IsTable c.add.new.self)) c.from_residual.ensures (c.in_err-number.ensures.full may).1

pub returns-in_err-number-clause-full : goal.returns-in_err-number-clause-full
returns-in_err-number-clause-full c =
    let site = match_variant_site c.args.source c.args.variant.0 in
    let before = table_sites c.args.self.now in
    let below : HasSources before (site c.loop-place.place) = λ x m. subst (λ k. k < length before) (in_alone c.args.source x m) c.requires.source in
    let may : MayAdd c.loop-place.self (site c.loop-place.place) = record { table = c.loop-place.invariant.table; sources = λ x m. let l = below x m in omega arith } in
    let after = table_sites c.add.new.self in
    let within : c.loop-place.place < c.args.fields = omega arith in
    passed_on c.from_residual.result c.in_err-number.field-0.0 (LacksRoom before after (map (layer (unfold_site before)) (each_place site 0 c.args.fields))) c.from_residual.ensures
    (field_lacks site before (table_sites c.loop-place.self) after c.loop-place.place c.args.fields c.loop-place.numbers.items c.in_err-number.field-0.0 within c.loop-place.invariant.added below
    c.loop-place.invariant.table.sources c.loop-place.invariant.longer (c.in_err-number.ensures.full may).0)
