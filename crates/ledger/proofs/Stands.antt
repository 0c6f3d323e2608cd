-- The promise of every run, put together. Assumes nothing.
use Rattle.std.proofs.Common.{ℕ, ◌≤◌, List, refl, subst}
use Rattle.code.specs.Laws.{CodeLaws}
use Rattle.ledger.specs.Ledger.{Made, Page, BenchCall, Call, Answer, InService}
use Rattle.ledger.specs.Promise.{SavePromise, ReadPromise, ChangePromise, BenchPromise, PromiseStands}
use Rattle.ledger.proofs.Shapes.{Kept, bench_kept, service_kept}
use Rattle.ledger.proofs.Saves.{refused_only_if_too_far, granted_only_if_near, refused_with_fewest, writes_with_lowest_mask, never_refused_with_few_lost, forced_least, forced_within_allowance}
use Rattle.ledger.proofs.Runs.{follows, no_message_until_saved, saved_or_never}
use Rattle.ledger.proofs.ReadBack.{read_at_once, last_message_is_read, blank_is_refused, found_as_levels_read, unread_only_if_too_far, equal_levels_read_alike, compared_as_read, compared_if_read, refused_as_first_read, refused_as_second_read, compare_refused_as_read}
use Rattle.ledger.proofs.Changes.{refused_changes_nothing, read_changes_nothing, compare_changes_nothing, other_pages_keep, floors_never_fall, save_keeps_floors, wear_sets, drift_sets, wear_granted, drift_granted, drift_refused, answer_fits, bench_floor_sets, bench_floor_granted, bench_refused_changes_nothing, bench_other_pages_keep}
use Rattle.ledger.proofs.Answered.{answered, bench_answered}
use Rattle.ledger.proofs.OneWay.{answered_one_way, no_page_refused, wrong_length_refused, no_symbol_refused, wrong_room_refused, wear_first_missing, drift_first_missing, bench_first_missing, bench_answered_one_way, one_bench_ledger, one_ledger, opening_changes_nothing}

module _ (made : Made) (laws : CodeLaws made.code) where
  saves_stand : (l : List Page) (p : ℕ) (m : List ℕ) → made.allowance ≤ made.code.radius → Kept made l → SavePromise made l p m
  saves_stand l p m small kept = record {
    refused_only_if_too_far = λ l' n a b low message step. refused_only_if_too_far made laws l p m n a b l' low message step;
    granted_only_if_near = λ l' mask forced step far. granted_only_if_near made laws l p m mask forced l' kept step far;
    refused_with_fewest = λ l' n a b low message step. refused_with_fewest made laws l p m n a b l' low message step;
    never_refused_with_few_lost = λ l' n a b low message few step. never_refused_with_few_lost made laws l p m n a b l' low message few step;
    forced_least = λ l' mask forced step. forced_least made laws l p m mask forced l' kept step;
    forced_within_allowance = λ l' mask forced step. forced_within_allowance made laws l p m mask forced l' step;
    writes_with_lowest_mask = λ l' mask forced step. writes_with_lowest_mask made laws l p m mask forced l' kept step;
    wrong_length_refused = λ l' a low wrong step. wrong_length_refused made laws l p m a l' low wrong step;
    no_symbol_refused = λ l' i a low whole first step. no_symbol_refused made laws l p m i a l' low whole first step;
    read_at_once = λ l' l'' mask forced n a room s t. read_at_once made laws l p m mask forced n l' l'' a small kept room s t;
  }

  reads_stand : (bench : List (BenchCall × Answer)) (past : List (Call × Answer)) (l : List Page) → InService made bench past l → ReadPromise made bench past l
  reads_stand bench past l run = record {
    last_message_is_read = λ l' p n m changed a room last few step. last_message_is_read made laws l p n m changed a l' room (follows made laws bench p past l m changed last) few step;
    blank_until_saved = λ l' p n a low room never step. blank_is_refused made laws l p n a l' low room (no_message_until_saved made laws bench past l p run never) step;
    saved_or_never = λ p. saved_or_never made laws bench past l p run;
    ledger_has_them = λ p m changed last. let f = follows made laws bench p past l m changed last in (f.message, f.spent);
    found_as_levels_read = λ l' p n c m step. found_as_levels_read made laws l p n c m l' step;
    unread_only_if_too_far = λ l' p n number layer place m changed room last step.
        unread_only_if_too_far made laws l p n number layer place m changed l' room (follows made laws bench p past l m changed last) step;
    wrong_room_refused = λ l' p n a low wrong step. wrong_room_refused made laws l p n a l' low wrong step;
    equal_levels_read_alike = λ l' l'' p r n m k c d a b one other same room s t.
        equal_levels_read_alike made made laws laws l l p r n m k c d a b l' l'' refl (follows made laws bench p past l m c one) (follows made laws bench r past l k d other) same room s t;
    compared_as_read = λ l' l'' l''' p r n same c d m k room step one other. compared_as_read made laws l p r n same c d m k l' l'' l''' step one other;
    compared_if_read = λ l' l'' l''' p r n c d m k a room one other step. compared_if_read made laws l p r n c d m k a l' l'' l''' one other step;
    refused_as_first_read = λ l' l'' p r n number layer place a room one step. refused_as_first_read made laws l p r n number layer place a l' l'' room one step;
    refused_as_second_read = λ l' l'' l''' p r n c number layer place m a room one other step. refused_as_second_read made laws l p r n c number layer place m a l' l'' l''' room one other step;
    compare_refused_as_read = λ l' p r n number layer place room step. compare_refused_as_read made laws l p r n number layer place l' room step;
  }

  changes_stand : (l : List Page) → Kept made l → ChangePromise made l
  changes_stand l kept = record {
    refused_changes_nothing = λ l' call n a b step. refused_changes_nothing made laws l call n a b l' step;
    read_changes_nothing = λ l' p n a step. read_changes_nothing made laws l p n a l' step;
    compare_changes_nothing = λ l' p r a step. compare_changes_nothing made laws l p r a l' step;
    other_pages_keep = λ l' call a step. other_pages_keep made laws l call a l' kept step;
    floors_never_fall = λ l' call a step. floors_never_fall made laws l call a l' kept step;
    save_keeps_floors = λ l' p m a step. save_keeps_floors made laws l p m a l' kept step;
    wear_sets = λ l' p c v step. wear_sets made laws l p c v l' kept step;
    drift_sets = λ l' p c v step. drift_sets made laws l p c v l' kept step;
    wear_granted = λ l' p c v a spot step. wear_granted made laws l p c v a l' spot step;
    drift_granted = λ l' p c v a spot above step. drift_granted made laws l p c v a l' spot above step;
    drift_refused = λ l' p c v a spot under step. drift_refused made laws l p c v a l' spot under step;
    wear_first_missing = λ l' p c v a step. wear_first_missing made laws l p c v a l' step;
    drift_first_missing = λ l' p c v a step. drift_first_missing made laws l p c v a l' step;
    no_page_refused = λ l' call a high step. no_page_refused made laws l call a l' high step;
    always_allowed = λ p. (kept.sound p).levels_allowed;
    answered = λ call. answered made laws l call kept;
    answer_fits = λ l' call a step. answer_fits made laws l call a l' step;
    answered_one_way = λ l' l'' call a b s t. answered_one_way made laws l l' l'' call a b s t;
  }

  bench_stands : (l : List Page) → Kept made l → BenchPromise made l
  bench_stands l kept = record {
    bench_floor_sets = λ l' p c v step. bench_floor_sets made laws l p c v l' kept step;
    bench_floor_granted = λ l' p c v a spot step. bench_floor_granted made laws l p c v a l' spot step;
    bench_first_missing = λ l' p c v a step. bench_first_missing made laws l p c v a l' step;
    bench_refused_changes_nothing = λ l' call n a b step. bench_refused_changes_nothing made laws l call n a b l' step;
    bench_other_pages_keep = λ l' p c v a step. bench_other_pages_keep made laws l p c v a l' step;
    bench_allowed = λ p. (kept.sound p).levels_allowed;
    bench_answered = λ call. bench_answered made l call;
    bench_answered_one_way = λ l' l'' call a b s t. bench_answered_one_way made laws l call l' l'' a b s t;
  }

pub promise : PromiseStands
promise made laws small = record {
  saves = λ bench past l p m run. saves_stand made laws l p m small (service_kept made laws bench past l run);
  reads = λ bench past l run. reads_stand made laws bench past l run;
  changes = λ bench past l run. changes_stand made laws l (service_kept made laws bench past l run);
  at_bench = λ past l run. bench_stands made laws l (bench_kept made laws past l run);
  one_bench_ledger = λ past l l' run run'. one_bench_ledger made laws past l l' run run';
  one_ledger = λ bench past l l' run run'. one_ledger made laws bench past l l' run run';
  opening_changes_nothing = λ bench l l' before run. opening_changes_nothing made laws bench l l' before run;
  equal_levels_read_alike_in_all_runs = λ made' bench bench' past past' l l' k k' p r n m t c d a b one_code one other same room s u.
      let laws' : CodeLaws made'.code = subst CodeLaws one_code laws in
      equal_levels_read_alike made made' laws laws' l k p r n m t c d a b l' k' one_code (follows made laws bench p past l m c one) (follows made' laws' bench' r past' k t d other) same room s u;
}
