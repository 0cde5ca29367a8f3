-- A log to which records are added one after the other.
use Rattle.std.proofs.Common.{◌≡◌, ℕ, ◌+◌, ◌<◌, List, length, get_or, map, take, ap, sym, ◌∙◌}
use Rattle.std.proofs.lemmas.List.{take_more, map_push}
use Rattle.std.proofs.lemmas.List.Sums.{fold_push}
use Rattle.sel_log.specs.Log.{Log, after_add}
use Rattle.bmc_board.specs.Sensing.{after_all}

-- one more is added behind the others
pub one_more : {A : Type 0} (to : A → List ℕ) (log : Log) (items : List A) (i : ℕ) (d : A) → i < length items
    → after_add (after_all log (map to (take i items))) (to (get_or items i d)) ≡ after_all log (map to (take (i + 1) items))
one_more to log items i d within =
    sym (
    ap (λ es. after_all log (map to es)) (take_more items i d within)
    ∙ ap (after_all log) (map_push to (take i items) (get_or items i d))
    ∙ fold_push after_add log (map to (take i items)) (to (get_or items i d))
    )

-- a record that is one more item's is added behind the others
pub add_item : {A : Type 0} (to : A → List ℕ) (log now : Log) (items : List A) (i : ℕ) (d : A) (record_bytes : List ℕ) → now ≡ after_all log (map to (take i items))
    → record_bytes ≡ to (get_or items i d) → i < length items → after_add now record_bytes ≡ after_all log (map to (take (i + 1) items))
add_item to log now items i d record_bytes made is within =
    ap (after_add now) is ∙ ap (λ l. after_add l (to (get_or items i d))) made ∙ one_more to log items i d within
