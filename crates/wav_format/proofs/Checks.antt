-- The cases of each refusal by one computed check, and what it tells that a file says something. Assumes nothing.
use mathlib.Core.Path.{◌≡◌, refl}
use mathlib.Core.Bool.{◌&&◌}
use Prim.Native.Nat.{ℕ}
use lib.Dec.{T, eqb, eqb→eq}
use Rattle.lists.proofs.Tables.{left, right}
use Rattle.outcome.specs.Outcome.{Outcome, result}
use Rattle.outcome.specs.Tests.{gives}
use Rattle.outcome.proofs.Tests.{gives_means}
use Rattle.wav_format.specs.Compute.{computing}
use Rattle.wav_format.specs.Cases.{saying, Says, pinned}
use Rattle.wav_format.specs.declared.Wave.{Wave}

pub pinned_hold : T pinned
unfolding computing
pinned_hold = tt

saying_means : (channels rate start size : ℕ) (w : Wave) → T (saying channels rate start size w)
    → Says channels rate start size w
saying_means channels rate start size w t =
    let sameChannels = eqb w.channels channels in
    let sameRate = sameChannels && eqb w.rate rate in
    let sameStart = sameRate && eqb w.samples.start start in
    let s = left sameStart _ t in
    let r = left sameRate _ s in
    (eqb→eq _ _ (left sameChannels _ r), eqb→eq _ _ (right sameChannels _ r), eqb→eq _ _ (right sameRate _ s), eqb→eq _ _ (right sameStart _ t))

pub tells : (channels rate start size : ℕ) (o : Outcome Wave) → T (gives (saying channels rate start size) o)
    → (w : Wave) × (o ≡ result w) × Says channels rate start size w
tells channels rate start size =
    gives_means _ (λ o. (w : Wave) × (o ≡ result w) × Says channels rate start size w) (λ w t. (w, refl, saying_means channels rate start size w t))
