use Rattle.std.proofs.Common.{map}
use Rattle.std.proofs.lemmas.Result.{IfErr-weaker}
use Rattle.model.specs.sites.Sites.{is_variant, is_struct, match_variant_site, extract_struct_site, layer, unfold_site, field_terms}
use Rattle.model.specs.sites.SetRules.{each_place}
use Rattle.core_rule_sets.specs.SiteTables.{table_sites, AddsSites, AddsFields, LacksRoom}
use Rattle.core_rule_sets.proofs.FullTables.{same_lack}
use Rattle.core_rule_sets.proofs.SitesAdded.{weaker_ok, variant_fields_added, struct_fields_added, variant_terms, struct_terms}
use Rattle.core_rule_sets.proofs.site_table.SiteTable.add_fields.Goals as goal

pub returns-in-Variant-clause-sites : goal.returns-in-Variant-clause-sites
returns-in-Variant-clause-sites c =
    let before = table_sites c.args.self.now in
    let after = table_sites c.add_variant_fields.new.self in
    rw c.in-Variant.is
    (weaker_ok (λ v. AddsSites before after (each_place (match_variant_site c.args.source c.in-Variant.variant.0) 0 c.in-Variant.fields) v.items)
    (λ v. AddsFields before after (is_variant c.in-Variant.ty.0 c.in-Variant.variant.0 c.in-Variant.fields) c.args.source v.items) c.add_variant_fields.result
    (λ v h. variant_fields_added before after c.in-Variant.ty.0 c.in-Variant.variant.0 c.in-Variant.fields c.args.source v.items h) c.add_variant_fields.ensures.sites)

pub returns-in-Struct-clause-sites : goal.returns-in-Struct-clause-sites
returns-in-Struct-clause-sites c =
    let before = table_sites c.args.self.now in
    let after = table_sites c.add_struct_fields.new.self in
    rw c.in-Struct.is
    (weaker_ok (λ v. AddsSites before after (each_place (extract_struct_site c.args.source) 0 c.in-Struct.fields) v.items)
    (λ v. AddsFields before after (is_struct c.in-Struct.ty.0 c.in-Struct.fields) c.args.source v.items) c.add_struct_fields.result
    (λ v h. struct_fields_added before after c.in-Struct.ty.0 c.in-Struct.fields c.args.source v.items h) c.add_struct_fields.ensures.sites)

pub returns-in-Variant-clause-full : goal.returns-in-Variant-clause-full
returns-in-Variant-clause-full c =
    let before = table_sites c.args.self.now in
    let after = table_sites c.add_variant_fields.new.self in
    let f = unfold_site before in
    let made = map (layer f) (each_place (match_variant_site c.args.source c.in-Variant.variant.0) 0 c.in-Variant.fields) in
    let wanted = field_terms (is_variant c.in-Variant.ty.0 c.in-Variant.variant.0 c.in-Variant.fields) (f c.args.source) in
    rw c.in-Variant.is
    (IfErr-weaker c.add_variant_fields.result (LacksRoom before after made) (LacksRoom before after wanted)
    (λ e h. same_lack before after made wanted e (variant_terms f c.in-Variant.ty.0 c.in-Variant.variant.0 c.in-Variant.fields c.args.source) h) c.add_variant_fields.ensures.full)

pub returns-in-Struct-clause-full : goal.returns-in-Struct-clause-full
returns-in-Struct-clause-full c =
    let before = table_sites c.args.self.now in
    let after = table_sites c.add_struct_fields.new.self in
    let f = unfold_site before in
    let made = map (layer f) (each_place (extract_struct_site c.args.source) 0 c.in-Struct.fields) in
    let wanted = field_terms (is_struct c.in-Struct.ty.0 c.in-Struct.fields) (f c.args.source) in
    rw c.in-Struct.is
    (IfErr-weaker c.add_struct_fields.result (LacksRoom before after made) (LacksRoom before after wanted)
    (λ e h. same_lack before after made wanted e (struct_terms f c.in-Struct.ty.0 c.in-Struct.fields c.args.source) h) c.add_struct_fields.ensures.full)
