-- Where a test of specs/Tests.antt passes, the call gives what the test names, and nothing else. Assumes nothing.
use mathlib.Core.Path.{◌≡◌, refl, sym, ap, ap₂}
use mathlib.Core.Bool.{◌&&◌}
use mathlib.Core.List.{List}
use Prim.Native.Nat.{ℕ}
use lib.Dec.{T, eqb, eqb→eq}
use lib.IntN.{ℤ}
use Rattle.outcome.specs.Outcome.{result}
use Rattle.outcome.proofs.Tests.{gives_means}
use Rattle.lists.specs.Tests.{eq_z}
use Rattle.lists.proofs.Tables.{left, right}
use Rattle.lists.proofs.Tests.{eq_z_means, same_bytes_means, same_samples_means}
use Rattle.sqv4_format.specs.Layout.{variant_byte}
use Rattle.sqv4_format.specs.Step.{stepped}
use Rattle.sqv4_format.specs.Decode.{DecodedFragment, fragment_call}
use Rattle.sqv4_format.specs.Encode.{encode_call}
use Rattle.sqv4_format.specs.Inspect.{Sound, inspected, decode_call}
use Rattle.sqv4_format.specs.Tests.{is_state, ample, settings, encodes, inspects, decodes, plays, steps}
use Rattle.sqv4_format.specs.declared.Variant.{Variant}
use Rattle.sqv4_format.specs.declared.State.{State}
use Rattle.sqv4_format.specs.declared.Header.{Header}

abbrev at : ℤ → ℕ → State
at predictor index = record { predictor = predictor; index = index }

pub is_state_means : (s : State) (predictor : ℤ) (index : ℕ) → T (is_state s predictor index) → s ≡ at predictor index
is_state_means s predictor index t =
    ap₂ at (eq_z_means _ _ (left (eq_z s.predictor predictor) _ t)) (eqb→eq _ _ (right (eq_z s.predictor predictor) _ t))

pub encodes_means : (variant : Variant) (gain channels rate : ℕ) (pcm : List ℤ) (bytes : List ℕ) → T (encodes variant gain channels rate pcm bytes)
    → encode_call (settings variant gain) pcm channels rate ample ≡ result bytes
encodes_means variant gain channels rate pcm bytes t =
    gives_means _ (λ o. o ≡ result bytes) (λ b s. ap result (sym (same_bytes_means bytes b s))) _ t

pub inspects_means : (d : List ℕ) (version variant channels rate samples : ℕ) → T (inspects d version variant channels rate samples)
    → (h : Header) × (inspected d ≡ result h) × (h.version ≡ version) × (variant_byte h.variant ≡ variant) × (h.channels ≡ channels)
    × (h.rate ≡ rate) × (h.samples ≡ samples)
inspects_means d version variant channels rate samples t =
    gives_means _
    (λ o.
    (h : Header) × (o ≡ result h) × (h.version ≡ version) × (variant_byte h.variant ≡ variant) × (h.channels ≡ channels)
    × (h.rate ≡ rate) × (h.samples ≡ samples))
    (λ h s.
    let sameVersion = eqb h.version version in
    let sameVariant = sameVersion && eqb (variant_byte h.variant) variant in
    let sameChannels = sameVariant && eqb h.channels channels in
    let sameRate = sameChannels && eqb h.rate rate in
    let r = left sameRate _ s in
    let c = left sameChannels _ r in
    let v = left sameVariant _ c in
    (h, refl, eqb→eq _ _ (left sameVersion _ v), eqb→eq _ _ (right sameVersion _ v), eqb→eq _ _ (right sameVariant _ c), eqb→eq _ _ (right sameChannels _ r), eqb→eq _ _ (right sameRate _ s)))
    (inspected d) t

pub decodes_means : (d : List ℕ) (samples : List ℤ) → T (decodes d samples)
    → (h : Header) × (decode_call d ample ≡ result (record { header = h; samples = samples }))
decodes_means d samples t =
    gives_means _ (λ o. (h : Header) × (o ≡ result (record { header = h; samples = samples })))
    (λ (x : Sound) s. (x.header, ap (λ (ys : List ℤ). result (record { header = x.header; samples = ys })) (same_samples_means x.samples samples s))) _ t

pub plays_means : (version : ℕ) (variant : Variant) (predictor : ℤ) (index n : ℕ) (fragment : List ℕ) (predictor' : ℤ) (index' : ℕ) (samples : List ℤ)
    → T (plays version variant predictor index n fragment predictor' index' samples)
    → fragment_call version variant (at predictor index) fragment n ≡ result (record { samples = samples; state = at predictor' index' })
plays_means version variant predictor index n fragment predictor' index' samples t =
    gives_means _ (λ o. o ≡ result (record { samples = samples; state = at predictor' index' }))
    (λ (r : DecodedFragment) s.
    ap₂ (λ (xs : List ℤ) (next : State). result (record { samples = xs; state = next }))
    (same_samples_means _ _ (right (is_state r.state predictor' index') _ s)) (is_state_means _ _ _ (left (is_state r.state predictor' index') _ s)))
    _ t

pub steps_means : (version : ℕ) (variant : Variant) (predictor : ℤ) (index code : ℕ) (predictor' : ℤ) (index' : ℕ)
    → T (steps version variant predictor index code predictor' index')
    → stepped version variant (at predictor index) code ≡ at predictor' index'
steps_means version variant predictor index code predictor' index' t = is_state_means _ _ _ t
