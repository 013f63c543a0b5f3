-- `Cursor::take_elements` meets its contract: what was passed over is there, and the bytes that it takes tell how many elements were long.
-- Assumes nothing.
use Rattle.std.proofs.Common.{◌≡◌, ◌+◌, ◌-◌, ◌*◌, ◌%◌, arith, refl}
use Rattle.felica_format.specs.Reasons.{number_of}
use Rattle.felica_cursor.specs.Taken.{rest}
use Rattle.felica_cursor.proofs.Blocks.{passes_none, passes_on, passes_refused, refused_longer, passes_bounds, passes_takes}
use Rattle.felica_cursor.proofs.Laws.{refused}
use Rattle.felica_cursor.proofs.cursor.Cursor.take_elements.Goals as goal

pub loop-eight-init : goal.loop-eight-init
loop-eight-init c = passes_none c.args.self

pub returns-in_err-cursor : goal.returns-in_err-cursor
returns-in_err-cursor c =
    let l = c.loop-eight in
    let n = 8 * l._eight + 8 in
    let all : n + (c.args.count - n) ≡ c.args.count = omega arith in
    let why = number_of c.in_err-cursor.field-0.0 in
    let cut = passes_refused (8 * l._eight) 8 n why c.args.self l.cursor refl l.invariant c.in_err-cursor.ensures in
    refused _ _ c.from_residual.ensures (refused_longer n (c.args.count - n) c.args.count why (rest c.args.self) all cut)

pub loop-eight-preserved : goal.loop-eight-preserved
loop-eight-preserved c =
    let l = c.loop-eight in
    let more : 8 * l._eight + 8 ≡ 8 * (l._eight + 1) = omega arith in
    passes_on (8 * l._eight) 8 (8 * (l._eight + 1)) c.args.self l.cursor c.in_ok-cursor.cursor more l.invariant c.in_ok-cursor.ensures

pub returns-in_err-behind : goal.returns-in_err-behind
returns-in_err-behind c =
    let l = c.loop-eight in
    let all : 8 * l._eight + c.args.count % 8 ≡ c.args.count = omega arith in
    let why = number_of c.in_err-behind.field-0.0 in
    refused _ _ c.from_residual-in_err-behind.ensures
    (passes_refused (8 * l._eight) (c.args.count % 8) c.args.count why c.args.self l.cursor all l.invariant c.in_err-behind.ensures)

pub between-requires : goal.between-requires
between-requires c =
    let l = c.loop-eight in
    let all : 8 * l._eight + c.args.count % 8 ≡ c.args.count = omega arith in
    let passed = passes_on (8 * l._eight) (c.args.count % 8) c.args.count c.args.self l.cursor c.in_ok-behind.behind all l.invariant c.in_ok-behind.ensures in
    passes_bounds c.args.self c.in_ok-behind.behind c.args.count passed

pub returns : goal.returns
returns c =
    let l = c.loop-eight in
    let all : 8 * l._eight + c.args.count % 8 ≡ c.args.count = omega arith in
    let passed = passes_on (8 * l._eight) (c.args.count % 8) c.args.count c.args.self l.cursor c.in_ok-behind.behind all l.invariant c.in_ok-behind.ensures in
    passes_takes c.args.self c.in_ok-behind.behind c.args.count c.between.result passed c.between.ensures
