use Rattle.std.proofs.Common.{◌≡◌, ◌<◌, ◌^◌, true, subst}
use Rattle.std.specs.Prelude.{unwrap_or}
use Rattle.std.specs.List.{list_all}
use Rattle.ifs_text.specs.DocumentBack.{has_small_size, HasNumbers}
use Rattle.ifs_text.proofs.printed.printed.Goals as goal

pub returns-clause-numbers : goal.returns-clause-numbers
returns-clause-numbers c =
    let numbers : HasNumbers c.args.interface.now = record {
      machine = subst (λ target. unwrap_or target.machine 0 < 2 ^ 16) c.target.ensures c.machine_is_small.ensures;
      sizes = subst (λ symbols. list_all has_small_size symbols ≡ true) c.symbols.ensures.value c.in_ok-append_symbols.ensures.sizes;
    } in
    record { interface = c.symbols.ensures.interface; numbers = numbers }
