use Rattle.std.proofs.Common.{ap, sym, ◌∙◌, arith}
use Rattle.causes.proofs.Laws.{handed-on}
use Rattle.table.proofs.Laws.{enters, enters-refused}
use Rattle.answers.specs.Answers.{told}
use Rattle.engine.proofs.Headers.{entered-held, held-header, held-places, stock-scalars}
use Rattle.engine.proofs.Starts.{stock-commits}
use Rattle.engine.proofs.Frames.{token-all, receive-unentered, receive-refused, receive-goes, receive-went, frame-storable, given-brought}
use Rattle.engine.proofs.receive.Goals as goal

pub admit_frame-requires : goal.admit_frame-requires
admit_frame-requires c =
    let H = entered-held _ _ c.in_ok-entrance.entrance (enters _ _ _ (sym c.enter.ensures ∙ c.in_ok-entrance.was)) in (held-header _ _ _ H, held-places _ c.in_ok-entrance.entrance.header _ H)

pub take-token-requires : goal.take-token-requires
take-token-requires c = let G = receive-goes _ _ _ _ _ _ c.in_ok-entrance.entrance (enters _ _ _ (sym c.enter.ensures ∙ c.in_ok-entrance.was)) _ c.admit_frame.ensures _ c.in_ok-view.was in (omega arith, omega (arith, G.token))

pub stock_of-stock-requires : goal.stock_of-stock-requires
stock_of-stock-requires c = (receive-goes _ _ _ _ _ _ c.in_ok-entrance.entrance (enters _ _ _ (sym c.enter.ensures ∙ c.in_ok-entrance.was)) _ c.admit_frame.ensures _ c.in_ok-view.was).stock

pub invariant_of-heard : goal.invariant_of-heard
invariant_of-heard c =
    let K = c.admit_frame.ensures in
    let G = receive-goes _ _ _ _ _ _ c.in_ok-entrance.entrance (enters _ _ _ (sym c.enter.ensures ∙ c.in_ok-entrance.was)) _ c.admit_frame.ensures _ c.in_ok-view.was in
    let W = c.stock_of-stock.ensures.1.width in
    record {
      short = K.short _ c.in_ok-view.was;
      scalars = stock-scalars c.in_ok-entrance.entrance.header G.stock.header G.stock.places _ W;
      storable = frame-storable c.in_ok-entrance.entrance.header _ _ _ G.stock.header (K.view _ c.in_ok-view.was) W;
    }

pub hear-requires : goal.hear-requires
hear-requires c =
    let G = receive-goes _ _ _ _ _ _ c.in_ok-entrance.entrance (enters _ _ _ (sym c.enter.ensures ∙ c.in_ok-entrance.was)) _ c.admit_frame.ensures _ c.in_ok-view.was in
    (G.held, (c.stock_of-stock.ensures.1, given-brought _ _ _ _ _ _ c.given_of-given.ensures))

pub returns : goal.returns
returns c =
    receive-went _ _ c.args.time _ _ _ _ _ c.in_ok-entrance.entrance (enters _ _ _ (sym c.enter.ensures ∙ c.in_ok-entrance.was)) _ c.admit_frame.ensures _ c.in_ok-view.was _ _ _ _
    (token-all _ _ (receive-goes _ _ _ _ _ _ c.in_ok-entrance.entrance (enters _ _ _ (sym c.enter.ensures ∙ c.in_ok-entrance.was)) _ c.admit_frame.ensures _ c.in_ok-view.was).token c.take-token.ensures) c.given_of-given.ensures
    (stock-commits _ _ _ c.stock_of-stock.ensures.0 c.stock_of-stock.ensures.1) c.hear.ensures

pub returns-in_err-entrance : goal.returns-in_err-entrance
returns-in_err-entrance c =
    receive-unentered _ _ c.args.time _ _ _ _ _ _ (enters-refused _ _ _ (sym c.enter.ensures ∙ c.in_err-entrance.was)) (ap told (handed-on _ _ c.from_residual.ensures.1))

pub returns-in_err-view : goal.returns-in_err-view
returns-in_err-view c =
    receive-refused _ _ c.args.time _ _ _ _ _ c.in_ok-entrance.entrance (enters _ _ _ (sym c.enter.ensures ∙ c.in_ok-entrance.was)) _ c.admit_frame.ensures _ c.in_err-view.was (ap told (handed-on _ _ c.from_residual-in_err-view.ensures.1))
