use Rattle.std.proofs.Common.{◌≡◌, ◌++◌, ◌∷◌, [], length, ◌∙◌, sym, subst, map, string_bytes, option_map, refl, rules, true}
use Rattle.std.specs.Result.{is_ok}
use Rattle.std.specs.HashMap.{get_by_text}
use Rattle.std.proofs.lemmas.List.{map-append, length-map}
use Rattle.std.proofs.lemmas.Map.Text.{hash_map_updates_text}
use Rattle.std.proofs.lemmas.Result.{IfOk-at_ok}
use Rattle.model.specs.lists.Names.{AreNumbersOf}
use Rattle.core_types.specs.Envs.{names_of, symbol_of}
use Rattle.core_types.proofs.Inverse.{inverse_push, update_read}
use Rattle.core_types.proofs.type_env.TypeEnv.add_name.Goals as goal

pub returns-clause-inverse : goal.returns-clause-inverse
returns-clause-inverse c =
    let key = IfOk-at_ok (λ s. string_bytes s ≡ c.args.name.now) c.in_ok-key.was c.from_str-2.ensures.ok in
    let sym' = IfOk-at_ok (λ s. string_bytes s ≡ c.args.name.now) c.in_ok-sym.was c.from_str.ensures.ok in
    let sets = hash_map_updates_text (string_bytes c.in_ok-key.key) c.args.self.now.sym_map c.insert.new.self _ c.in_ok-insert.ensures.updates in
    let names = names_of c.args.self.now in
    let n : c.len.result ≡ length names = c.len.ensures ∙ c.args.self.now.syms.ok.0 ∙ sym (length-map c.args.self.now.syms.items string_bytes) in
    let ok : is_ok c.push.result ≡ true = search rules in
    let reads = update_read (λ s. s.0) (get_by_text c.args.self.now.sym_map) (get_by_text c.insert.new.self) (string_bytes c.in_ok-key.key) _ sets in
    let all = inverse_push names (symbol_of c.args.self.now) (λ q. option_map (λ s. s.0) (get_by_text c.insert.new.self q)) c.requires.inverse c.args.name.now c.requires.absent (rw (key, n) at reads) in
    let items : map string_bytes c.push.new.self.items ≡ names ++ c.args.name.now ∷ [] = rw (c.push.ensures.items, ok, c.reserve.ensures.items, map-append, sym') refl in
    subst (λ ns. AreNumbersOf ns (λ q. option_map (λ s. s.0) (get_by_text c.insert.new.self q))) (sym items) all
