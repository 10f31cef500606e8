pub mod PrefixInner
