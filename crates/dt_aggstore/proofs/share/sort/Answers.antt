-- Shares are in order, and are of the same bags.
use Rattle.std.proofs.Common.{◌≡◌, length, map, rules}
use Rattle.std.proofs.lemmas.Fn.{always_returns_same}
use Rattle.std.proofs.lemmas.List.Sorted.{ranks_by, All-permutation, IsPermutation-map}
use Rattle.dt_aggstore.specs.Joining.{cell_shared, shared_key}
use Rattle.dt_aggstore.specs.Shares.{ShareForm}
use Rattle.dt_aggstore.proofs.Rising.{keys_total}
use Rattle.dt_aggstore.proofs.Sharing.{comes_before, sorted_told}
use Rattle.dt_aggstore.proofs.Anew.{shares_anew}
use Rattle.dt_aggstore.proofs.share.sort.Goals as goal

pub returns-clause-sorted : goal.returns-clause-sorted
returns-clause-sorted g c =
    let told = g.S.KeyShare.told in
    sorted_told told c.sort_unstable_by.new.self.items
    (c.sort_unstable_by.ensures.sorted (λ a b. comes_before (told a) (told b)) (ranks_by keys_total (λ s. shared_key (told s)))
    (always_returns_same _ _ _ (λ a r f k. search rules)))

pub returns-clause-bags : goal.returns-clause-bags
returns-clause-bags g c = λ function bags a.
    let told = g.S.KeyShare.told in
    shares_anew function bags (map told c.args.shares.now.items) (map told c.sort_unstable_by.new.self.items)
    (IsPermutation-map told _ _ c.sort_unstable_by.ensures.permutation) a

pub returns-clause-words : goal.returns-clause-words
returns-clause-words g c = λ words all.
    let told = g.S.KeyShare.told in
    All-permutation (λ (share : ShareForm). length (cell_shared share) ≡ words) (map told c.args.shares.now.items)
    (map told c.sort_unstable_by.new.self.items)
    (IsPermutation-map told _ _ c.sort_unstable_by.ensures.permutation) all
