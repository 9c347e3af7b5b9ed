use Rattle.std.proofs.Common.{◌≡◌, None, option_map, option_copied, sym, ap, ◌∙◌, refl}
use Rattle.core_syntax.specs.Stable.{look_up}
use Rattle.core_types.specs.Envs.{same_symbol}
use Rattle.core_types.proofs.TypeMaps.{read_ids}
use Rattle.core_types.proofs.type_env.TypeEnv.claim_type_name.Goals as goal

pub returns-clause-named : goal.returns-clause-named
returns-clause-named c =
    let none : look_up same_symbol c.intern_text.new.self.type_map c.in_ok-sym.sym ≡ None = sym c.get.ensures.value ∙ ap option_copied c.in_default.is in
    record {
      names = c.in_ok-sym.ensures.names;
      fresh = rw (← c.in_ok-sym.ensures.type_map, ← c.in_ok-sym.ensures.number) (ap (option_map (λ t. t.0)) none);
      ids = λ k. rw (← c.in_ok-sym.ensures.type_map, ← c.in_ok-sym.ensures.number, ← c.len.ensures.value) (read_ids c.intern_text.new.self.type_map c.insert.new.self c.in_ok-sym.sym _ c.in_ok-insert.ensures.has k);
      count = rw (← c.in_ok-sym.ensures.type_map, c.in_ok-insert.ensures.len, c.in_ok-insert.ensures.old, none) refl;
      const_types = c.in_ok-sym.ensures.const_types;
      errors = c.in_ok-sym.ensures.errors;
    }
