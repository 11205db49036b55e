-- `fragment_plain::decode_fragment` meets its contract: its 64 codes begin with those of the fragment. Assumes nothing.
use native.Mathlib.Omega.{arith}
use mathlib.Core.Path.{◌≡◌}
use Rattle.sqv4_format.specs.Layout.{anew}
use Rattle.fragment_plain.proofs.Fragments.{frame_few, first_codes, codes_small, run_samples, run_state}
use Rattle.fragment_plain.proofs.decode_fragment.Goals as goal
use Rattle.fragment_plain.proofs.decode_fragment.Goals.{After-unpack-codes}

-- the 64 codes that are unpacked
codes_are : (c : After-unpack-codes) → c.unpack-codes.result ≡ first_codes c.args.coding.version c.args.coding.variant c.args.fragment.now.bytes.now
codes_are c = rw c.payload.ensures at c.unpack-codes.ensures

pub decode_codes-end-requires : goal.decode_codes-end-requires
decode_codes-end-requires c =
    let a = c.args in
    (omega (arith, frame_few (anew a.coding.version)), codes_small a.coding.version a.coding.variant a.fragment.now.bytes.now (codes_are (goal.at.decode_codes-end-requires c).After-unpack-codes))

pub returns : goal.returns
returns c =
    let a = c.args in
    let es = c.state_before-start.ensures in
    let ec = codes_are (goal.at.returns c).After-unpack-codes in (
      run_state a.coding.version a.coding.variant a.fragment.now.bytes.now a.state.state _ c.requires.1 es ec c.decode_codes-end.ensures.0 c.state_after.ensures,
      run_samples a.coding.version a.coding.variant a.fragment.now.bytes.now a.state.state _ c.requires.1 es ec c.volume.ensures c.decode_codes-end.ensures.1,
    )
