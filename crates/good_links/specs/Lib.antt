-- What the contracts of `good_links` cite.
pub mod GoodLinks
