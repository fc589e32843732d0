mod AskedLemmas
mod AttemptsBack
mod FieldsBack
mod ItemsBack
mod ReadBack
mod RepliedLemmas
