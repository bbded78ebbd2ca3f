use Rattle.std.proofs.Common.{◌≡◌, ◌∷◌, ◌++◌, sym, ap, subst, ◌∙◌, is_some, map, ◌-◌}
use Rattle.std.specs.Prelude.{unwrap_or}
use Rattle.std.specs.Option.{option_map, option_copied_mut}
use Rattle.std.specs.Map.{lookup, set_value}
use Rattle.std.specs.Map.Iter.{deref_pair}
use Rattle.lru.specs.LruCache.{promoted}
use Rattle.obj_id.specs.Ids.{id_eq}
use Rattle.store_facts.proofs.Tests.{true_false, none_some}
use Rattle.use_tree.specs.Uses.{AreUsesRising, take_use, has_use}
use Rattle.lru_evictor.specs.Indexed.{use_of, with_turn}
use Rattle.lru_evictor.proofs.Truths.{some_is}
use Rattle.lru_evictor.proofs.Turning.{turned-last, turned-found, turned-first, turned-there, turned-taken}
use Rattle.lru_evictor.proofs.renumbering.renumber_last.Goals as goal

pub returns-in_default-get_mut-clause-entries : goal.returns-in_default-get_mut-clause-entries
returns-in_default-get_mut-clause-entries c done rest e is olds =
    let es = c.args.slots.now.entries in
    let distinct = c.len-count.ensures.valid.0 in
    let same : c.in-Some.id.now ≡ e.0 = ap (λ o. (unwrap_or o e).0) (ap (option_map deref_pair) (sym c.in-Some.is) ∙ c.peek_lru.ensures ∙ turned-last es done rest e is distinct) in
    let found = ap (λ i. lookup (id_eq i) es) same ∙ turned-found es done rest e is distinct in
    none_some e.1 (sym (ap option_copied_mut c.in_default-get_mut.is) ∙ c.get_mut.ensures.value ∙ found)

pub returns-in_default-get_mut-clause-uses : goal.returns-in_default-get_mut-clause-uses
returns-in_default-get_mut-clause-uses c done rest e is olds fresh =
    let es = c.args.slots.now.entries in
    let distinct = c.len-count.ensures.valid.0 in
    let same : c.in-Some.id.now ≡ e.0 = ap (λ o. (unwrap_or o e).0) (ap (option_map deref_pair) (sym c.in-Some.is) ∙ c.peek_lru.ensures ∙ turned-last es done rest e is distinct) in
    let found = ap (λ i. lookup (id_eq i) es) same ∙ turned-found es done rest e is distinct in
    none_some e.1 (sym (ap option_copied_mut c.in_default-get_mut.is) ∙ c.get_mut.ensures.value ∙ found)

pub returns-in_default-get_mut-clause-old : goal.returns-in_default-get_mut-clause-old
returns-in_default-get_mut-clause-old c done rest e is olds =
    let es = c.args.slots.now.entries in
    let distinct = c.len-count.ensures.valid.0 in
    let same : c.in-Some.id.now ≡ e.0 = ap (λ o. (unwrap_or o e).0) (ap (option_map deref_pair) (sym c.in-Some.is) ∙ c.peek_lru.ensures ∙ turned-last es done rest e is distinct) in
    let found = ap (λ i. lookup (id_eq i) es) same ∙ turned-found es done rest e is distinct in
    none_some e.1 (sym (ap option_copied_mut c.in_default-get_mut.is) ∙ c.get_mut.ensures.value ∙ found)

pub returns-in_default-get_mut-clause-left : goal.returns-in_default-get_mut-clause-left
returns-in_default-get_mut-clause-left c done rest e is olds =
    let es = c.args.slots.now.entries in
    let distinct = c.len-count.ensures.valid.0 in
    let same : c.in-Some.id.now ≡ e.0 = ap (λ o. (unwrap_or o e).0) (ap (option_map deref_pair) (sym c.in-Some.is) ∙ c.peek_lru.ensures ∙ turned-last es done rest e is distinct) in
    let found = ap (λ i. lookup (id_eq i) es) same ∙ turned-found es done rest e is distinct in
    none_some e.1 (sym (ap option_copied_mut c.in_default-get_mut.is) ∙ c.get_mut.ensures.value ∙ found)

pub returns-in_default-take-clause-entries : goal.returns-in_default-take-clause-entries
returns-in_default-take-clause-entries c done rest e is olds =
    let es = c.args.slots.now.entries in
    let distinct = c.len-count.ensures.valid.0 in
    let same : c.in-Some.id.now ≡ e.0 = ap (λ o. (unwrap_or o e).0) (ap (option_map deref_pair) (sym c.in-Some.is) ∙ c.peek_lru.ensures ∙ turned-last es done rest e is distinct) in
    let found = ap (λ i. lookup (id_eq i) es) same ∙ turned-found es done rest e is distinct in
    let place = some_is c.in-Some-get_mut.place.now e.1 (sym (ap option_copied_mut c.in-Some-get_mut.is) ∙ c.get_mut.ensures.value ∙ found) in
    true_false (ap is_some (sym c.in_default-take.is) ∙ c.take.ensures.there ∙ (λ i. has_use (place i).turn (olds i)) ∙ turned-there es done rest e is distinct)

pub returns-in_default-take-clause-uses : goal.returns-in_default-take-clause-uses
returns-in_default-take-clause-uses c done rest e is olds fresh =
    let es = c.args.slots.now.entries in
    let distinct = c.len-count.ensures.valid.0 in
    let same : c.in-Some.id.now ≡ e.0 = ap (λ o. (unwrap_or o e).0) (ap (option_map deref_pair) (sym c.in-Some.is) ∙ c.peek_lru.ensures ∙ turned-last es done rest e is distinct) in
    let found = ap (λ i. lookup (id_eq i) es) same ∙ turned-found es done rest e is distinct in
    let place = some_is c.in-Some-get_mut.place.now e.1 (sym (ap option_copied_mut c.in-Some-get_mut.is) ∙ c.get_mut.ensures.value ∙ found) in
    true_false (ap is_some (sym c.in_default-take.is) ∙ c.take.ensures.there ∙ (λ i. has_use (place i).turn (olds i)) ∙ turned-there es done rest e is distinct)

pub returns-in_default-take-clause-old : goal.returns-in_default-take-clause-old
returns-in_default-take-clause-old c done rest e is olds =
    let es = c.args.slots.now.entries in
    let distinct = c.len-count.ensures.valid.0 in
    let same : c.in-Some.id.now ≡ e.0 = ap (λ o. (unwrap_or o e).0) (ap (option_map deref_pair) (sym c.in-Some.is) ∙ c.peek_lru.ensures ∙ turned-last es done rest e is distinct) in
    let found = ap (λ i. lookup (id_eq i) es) same ∙ turned-found es done rest e is distinct in
    let place = some_is c.in-Some-get_mut.place.now e.1 (sym (ap option_copied_mut c.in-Some-get_mut.is) ∙ c.get_mut.ensures.value ∙ found) in
    true_false (ap is_some (sym c.in_default-take.is) ∙ c.take.ensures.there ∙ (λ i. has_use (place i).turn (olds i)) ∙ turned-there es done rest e is distinct)

pub returns-in_default-take-clause-left : goal.returns-in_default-take-clause-left
returns-in_default-take-clause-left c done rest e is olds =
    let es = c.args.slots.now.entries in
    let distinct = c.len-count.ensures.valid.0 in
    let same : c.in-Some.id.now ≡ e.0 = ap (λ o. (unwrap_or o e).0) (ap (option_map deref_pair) (sym c.in-Some.is) ∙ c.peek_lru.ensures ∙ turned-last es done rest e is distinct) in
    let found = ap (λ i. lookup (id_eq i) es) same ∙ turned-found es done rest e is distinct in
    let place = some_is c.in-Some-get_mut.place.now e.1 (sym (ap option_copied_mut c.in-Some-get_mut.is) ∙ c.get_mut.ensures.value ∙ found) in
    true_false (ap is_some (sym c.in_default-take.is) ∙ c.take.ensures.there ∙ (λ i. has_use (place i).turn (olds i)) ∙ turned-there es done rest e is distinct)

pub returns-clause-entries : goal.returns-clause-entries
returns-clause-entries c done rest e is olds =
    let es = c.args.slots.now.entries in
    let distinct = c.len-count.ensures.valid.0 in
    let same : c.in-Some.id.now ≡ e.0 = ap (λ o. (unwrap_or o e).0) (ap (option_map deref_pair) (sym c.in-Some.is) ∙ c.peek_lru.ensures ∙ turned-last es done rest e is distinct) in
    let found = ap (λ i. lookup (id_eq i) es) same ∙ turned-found es done rest e is distinct in
    let place = some_is c.in-Some-get_mut.place.now e.1 (sym (ap option_copied_mut c.in-Some-get_mut.is) ∙ c.get_mut.ensures.value ∙ found) in
    let turn = c.left-turn.result - 1 in
    (λ i. set_value (id_eq (same i)) (promoted (id_eq (same i)) es) (record { turn = turn; eviction_info = (place i).eviction_info }))
    ∙ turned-first es done rest e is distinct turn
    ∙ ap (λ t. with_turn t e ∷ (done ++ rest)) (sym (ap (λ p. p.1) c.push_use.ensures))

pub returns-clause-uses : goal.returns-clause-uses
returns-clause-uses c done rest e is olds fresh =
    let es = c.args.slots.now.entries in
    let distinct = c.len-count.ensures.valid.0 in
    let same : c.in-Some.id.now ≡ e.0 = ap (λ o. (unwrap_or o e).0) (ap (option_map deref_pair) (sym c.in-Some.is) ∙ c.peek_lru.ensures ∙ turned-last es done rest e is distinct) in
    let found = ap (λ i. lookup (id_eq i) es) same ∙ turned-found es done rest e is distinct in
    let place = some_is c.in-Some-get_mut.place.now e.1 (sym (ap option_copied_mut c.in-Some-get_mut.is) ∙ c.get_mut.ensures.value ∙ found) in
    let turn = c.left-turn.result - 1 in
    ap (λ p. p.0) c.push_use.ensures
    ∙ (λ i. record { turn = turn; id = same i; classes = (place i).eviction_info.classes } ∷ fresh i)
    ∙ ap (λ t. map use_of (with_turn t e ∷ done)) (sym (ap (λ p. p.1) c.push_use.ensures))

pub returns-clause-old : goal.returns-clause-old
returns-clause-old c done rest e is olds =
    let es = c.args.slots.now.entries in
    let distinct = c.len-count.ensures.valid.0 in
    let same : c.in-Some.id.now ≡ e.0 = ap (λ o. (unwrap_or o e).0) (ap (option_map deref_pair) (sym c.in-Some.is) ∙ c.peek_lru.ensures ∙ turned-last es done rest e is distinct) in
    let found = ap (λ i. lookup (id_eq i) es) same ∙ turned-found es done rest e is distinct in
    let place = some_is c.in-Some-get_mut.place.now e.1 (sym (ap option_copied_mut c.in-Some-get_mut.is) ∙ c.get_mut.ensures.value ∙ found) in
    c.take.ensures.uses
    ∙ (λ i. take_use (place i).turn (olds i))
    ∙ turned-taken es done rest e is distinct (subst AreUsesRising olds c.take.ensures.rising)
